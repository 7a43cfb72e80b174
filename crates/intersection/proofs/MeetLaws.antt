-- The outcome of the meet, case by case, and its claims over all words.
use mathlib.Core.Path.{◌≡◌, refl, sym, ap, ap₂, subst, ◌∙◌}
use mathlib.Core.Bool.{◌&&◌}
use mathlib.Core.List.{List, [], ◌∷◌}
use Prim.Native.Nat.{ℕ, ◌*◌, ◌<◌, ◌≤◌}
use native.Mathlib.Decide.{dec_lt}
use native.Mathlib.Omega.{arith}
use lib.ListN.{length}
use Rattle.automata.specs.Automaton.{accepts}
use Rattle.automata.specs.Language.{Same, intersection}
use Rattle.automata.specs.Dimension.{IsDimension}
use Rattle.automata.specs.MinimalOf.{minimal_of, dimension_of}
use Rattle.automata.specs.Operations.{meet_of}
use Rattle.automata.proofs.Operations.{accepts_meet}
use Rattle.automata.proofs.Dimension.{dimension_of_lem, dimension_unique, minimal_language}
use Rattle.automata.proofs.Fields.{fields_bits}
use Rattle.automata.proofs.Minimal.{bits_language}
use Rattle.rows.specs.declared.Machine.{Machine}
use Rattle.rows.specs.Row.{mask}
use Rattle.rows.specs.Machine.{automaton_in}
use Rattle.rows.proofs.BesideLaws.{if_low, if_high}
use Rattle.minimisation.specs.Minimises.{Minimises}
use Rattle.record.specs.Record.{letters_of, automaton_of, language_of}
use Rattle.record.specs.Outcome.{Outcome, refused, wrote, answer_of, answer_in, buffer_in}
use Rattle.std.specs.Prelude.{Result, Err}
use Rattle.record.specs.Rules.{number_of}
use Rattle.record.specs.declared.Rule.{Rule}
use Rattle.record.specs.declared.Rule.TheVariants.{Product, Dimension}
use Rattle.record.specs.declared.Refusal.{Refusal}
use Rattle.record.specs.Claims.{Operands}
use Rattle.operands.specs.Meant.{blank_of}
use Rattle.operands.specs.Operands.{pair_of}
use Rattle.operands.proofs.MeantLaws.{SameFor, writes_blank}
use Rattle.operands.proofs.PairLaws.{pair_refused}
use Rattle.record.proofs.Numbers.{not_among}
use Rattle.results.specs.Results.{result_of, Limits}
use Rattle.results.specs.Built.{Built}
use Rattle.results.proofs.ResultLaws.{result_among, limits_of, Promises, Service, service_of}
use Rattle.results.proofs.Passed.{sizes, pair_wrote, unnamed_pair, pair_passed}
use Rattle.results.proofs.BuiltLaws.{built_same}
use Rattle.intersection.specs.Meet.{max_product, crossing, meet_outcome, DimensionProduct, Small, Meets}

-- What a minimal automaton in a table accepts.
minimised_words : (a : ℕ) (bs t : List ℕ) (m : Machine) → Minimises a (automaton_of bs) t m.states (mask m.initial) (mask m.finals) → Same a (accepts (automaton_of bs)) (accepts (automaton_in t m))
minimised_words a bs t m M w ow =
    minimal_language a (automaton_of bs) w ow ∙ sym (bits_language a (automaton_in t m) (minimal_of a (automaton_of bs)) (fields_bits a (automaton_in t m) (minimal_of a (automaton_of bs)) M.same_fields) w ow)

-- The product of two minimal automata accepts the meet.
pub meet_held : (a b : ℕ) (bs cs t u s : List ℕ) (g h r : Machine) → b ≡ a → Minimises a (automaton_of bs) t g.states (mask g.initial) (mask g.finals) → Minimises a (automaton_of cs) u h.states (mask h.initial) (mask h.finals)
    → Built b (intersection (accepts (automaton_in t g)) (accepts (automaton_in u h))) s r → Built a (intersection (accepts (automaton_of bs)) (accepts (automaton_of cs))) s r
meet_held a b bs cs t u s g h r e G H B =
    built_same b a (intersection (accepts (automaton_in t g)) (accepts (automaton_in u h))) (intersection (accepts (automaton_of bs)) (accepts (automaton_of cs))) s r e
    (λ w ow. ap₂ ◌&&◌ (minimised_words a bs t g G w ow) (minimised_words a cs u h H w ow)) B

module _ (bs cs : List ℕ) where
  abbrev product : ℕ
  product = dimension_of (letters_of bs) (automaton_of bs) * dimension_of (letters_of bs) (automaton_of cs)

  -- ---- the cases of the outcome

  pub meet_refused : (room : ℕ) {r : Refusal} → Err r ≡ pair_of bs cs → meet_outcome bs cs room ≡ refused r.rule r.record r.place
  unfolding meet_outcome
  meet_refused room e = pair_refused bs cs _ e

  module _ (room : ℕ) where
    abbrev result : Outcome
    result = result_of (letters_of bs) (meet_of (automaton_of bs) (automaton_of cs)) room

    passed : Operands bs cs → meet_outcome bs cs room ≡ crossing product result
    unfolding meet_outcome
    passed p = pair_passed bs cs (crossing product result) p

    module _ (p : Operands bs cs) (d : ℕ) (e : d ≡ product) where
      pub meet_over : max_product < d → meet_outcome bs cs room ≡ refused Product 0 d
      meet_over h = passed p ∙ ap (λ x. crossing x result) (sym e) ∙ if_low max_product d (refused Product 0 d) result h

      meet_within : d ≤ max_product → meet_outcome bs cs room ≡ result
      meet_within h = passed p ∙ ap (λ x. crossing x result) (sym e) ∙ if_high max_product d (refused Product 0 d) result h

  -- ---- the claims

  module _ (p : Operands bs cs) where
    dimensions : DimensionProduct bs cs product
    dimensions = record {
      first = dimension_of (letters_of bs) (automaton_of bs);
      second = dimension_of (letters_of bs) (automaton_of cs);
      one = dimension_of_lem (letters_of bs) (automaton_of bs);
      two = subst (λ a. IsDimension a (language_of cs) (dimension_of (letters_of bs) (automaton_of cs))) p.2 (dimension_of_lem (letters_of bs) (automaton_of cs));
      product = refl;
    }

    unique : (k : ℕ) → DimensionProduct bs cs k → k ≡ product
    unique k D =
        let two = subst (λ a. IsDimension a (language_of cs) D.second) (sym p.2) D.two in
        D.product
        ∙ ap₂ ◌*◌ (dimension_unique (letters_of bs) (language_of bs) D.first (dimension_of (letters_of bs) (automaton_of bs)) D.one (dimension_of_lem (letters_of bs) (automaton_of bs)))
        (dimension_unique (letters_of bs) (language_of cs) D.second (dimension_of (letters_of bs) (automaton_of cs)) two (dimension_of_lem (letters_of bs) (automaton_of cs)))

    -- A product of dimensions within the limit.
    pub within : (d : ℕ) → d ≡ product → d ≤ max_product → Small bs cs
    within d e h k D = omega (arith, unique k D)

    -- Past row 10 the product is not over the limit.
    small : (room : ℕ) (o : Outcome) → ((k : ℕ) → o ≡ refused Product 0 k → ⊥) → meet_outcome bs cs room ≡ o → Small bs cs
    small room o other e k D = go (dec_lt max_product product)
      where
        go : Dec (max_product < product) → k ≤ max_product
        go (yes h) = absurd (other product (sym e ∙ meet_over room p product refl h))
        go (no h) = omega (arith, unique k D)

  meet_wrote : (room : ℕ) (out : List ℕ) → meet_outcome bs cs room ≡ wrote out → Operands bs cs
  unfolding meet_outcome
  meet_wrote room out e = pair_wrote bs cs (crossing product (result room)) out e

  meet_passed : (room : ℕ) (rule : Rule) (k : ℕ) → meet_outcome bs cs room ≡ refused rule 0 k → Operands bs cs
  unfolding meet_outcome
  meet_passed room rule k e = unnamed_pair bs cs (crossing product (result room)) rule k e

  meet_products : (room : ℕ) (r : Result ℕ Refusal) → r ≡ answer_of (meet_outcome bs cs room) → Limits Product max_product (Operands bs cs) (DimensionProduct bs cs) r
  meet_products room = limits_of Product max_product product (result room) (meet_outcome bs cs room) (Operands bs cs) (DimensionProduct bs cs)
      (passed room) (meet_passed room Product) (λ k. not_among (11 ∷ 12 ∷ []) _ (result_among (letters_of bs) (meet_of (automaton_of bs) (automaton_of cs)) room) Product 0 k refl)
      dimensions unique

  meet_service : (buf : List ℕ) → Service (letters_of bs) (intersection (language_of bs) (language_of cs)) (Operands bs cs × Small bs cs) buf (meet_outcome bs cs (length buf))
  meet_service buf = service_of (letters_of bs) (intersection (language_of bs) (language_of cs)) (meet_of (automaton_of bs) (automaton_of cs))
      (λ w ow. sym (accepts_meet (automaton_of bs) (automaton_of cs) w)) (Operands bs cs × Small bs cs) (λ p. sizes bs p.0.0) buf (meet_outcome bs cs (length buf))
      (λ p. meet_within (length buf) p.0 product refl (p.1 product (dimensions p.0))) writes refuses
    where
      pair : (o : Outcome) → meet_outcome bs cs (length buf) ≡ o → ((k : ℕ) → o ≡ refused Product 0 k → ⊥) → Operands bs cs → Operands bs cs × Small bs cs
      pair o e other p = (p, small p (length buf) o other e)

      writes : (out : List ℕ) → meet_outcome bs cs (length buf) ≡ wrote out → Operands bs cs × Small bs cs
      writes out e = pair (wrote out) e (λ k q. let z : ◌≡◌ {A = ℕ} 0 1 = cc in omega arith) (meet_wrote (length buf) out e)

      refuses : (k : ℕ) → meet_outcome bs cs (length buf) ≡ refused Dimension 0 k → Operands bs cs × Small bs cs
      refuses k e = pair (refused Dimension 0 k) e (λ j q. let z : Dimension ≡ Product = cc in let n = ap number_of z in omega arith) (meet_passed (length buf) Dimension k e)

  -- Row 10 beside the promises that every operation has.
  abbrev Promised : List ℕ → List ℕ → Result ℕ Refusal → Type 0
  Promised buf exit r = (r ≡ answer_in (meet_outcome bs cs) buf) × ((exit ≡ buffer_in (meet_outcome bs cs) buf) × Meets bs cs exit r)

  with_products : (buf exit : List ℕ) (r : Result ℕ Refusal)
      → Promises (letters_of bs) (intersection (language_of bs) (language_of cs)) (Operands bs cs × Small bs cs) (meet_outcome bs cs (length buf)) buf exit r → Promised buf exit r
  with_products buf exit r p = (p.0, (p.1.0, record { products = meet_products (length buf) r p.0; gives = p.1.1 }))

  pub meet_refuses : (buf : List ℕ) (f : Refusal) (r : Result ℕ Refusal) → meet_outcome bs cs (length buf) ≡ refused f.rule f.record f.place → r ≡ Err f → Promised buf buf r
  meet_refuses buf f r e answer = with_products buf buf r ((meet_service buf).0 f r e answer)

  pub meet_gives : (buf t : List ℕ) (m : Machine) (exit : List ℕ) (r : Result ℕ Refusal) → Operands bs cs × Small bs cs → Built (letters_of bs) (intersection (language_of bs) (language_of cs)) t m
      → r ≡ answer_in (result_of m.letters (automaton_in t m)) buf → exit ≡ buffer_in (result_of m.letters (automaton_in t m)) buf → Promised buf exit r
  meet_gives buf t m exit r p B answer buffer = with_products buf exit r ((meet_service buf).1 t m exit r p B answer buffer)

-- For a blank the answer and the buffer are those for the record of 15 bytes that it stands for.
pub meet_blank : (buf bs : List ℕ) → SameFor meet_outcome buf bs [] (blank_of (letters_of bs))
meet_blank = writes_blank meet_outcome
