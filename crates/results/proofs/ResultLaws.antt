-- The minimal record of a result: what is written is minimal for its language, and exactly when a limit refuses.
use mathlib.Core.Path.{◌≡◌, refl, sym, ap, ap₂, subst, ◌∙◌}
use mathlib.Core.Bool.{cond}
use mathlib.Core.List.{List, [], ◌∷◌}
use Prim.Native.Nat.{ℕ, ◌<◌, ◌≤◌}
use native.Mathlib.Decide.{dec_lt}
use native.Mathlib.Omega.{arith}
use lib.Dec.{ltb}
use lib.ListN.{length, take}
use Rattle.automata.specs.Automaton.{Automaton, accepts}
use Rattle.automata.specs.Language.{Language, Same}
use Rattle.automata.specs.Dimension.{IsDimension}
use Rattle.automata.specs.MinimalOf.{minimal_of, dimension_of}
use Rattle.automata.proofs.Dimension.{dimension_accepted, dimension_unique, dimension_same}
use Rattle.automata.proofs.Fields.{same_fields}
use Rattle.rows.specs.declared.Machine.{Machine}
use Rattle.rows.specs.Row.{mask}
use Rattle.rows.specs.Machine.{automaton_in}
use Rattle.rows.proofs.BesideLaws.{if_low, if_high}
use Rattle.minimisation.specs.Minimises.{Minimises}
use Rattle.record.specs.Record.{max_states, max_letters, encode}
use Rattle.record.specs.Claims.{MinimalRecord}
use Rattle.record.specs.Outcome.{Outcome, refused, wrote, answer_of, buffer_of, fit}
use Rattle.record.specs.Rules.{refusal}
use Rattle.record.specs.declared.Rule.{Rule}
use Rattle.record.specs.declared.Rule.TheVariants.{Dimension}
use Rattle.record.specs.declared.Refusal.{Refusal}
use Rattle.std.specs.Prelude.{Result, Ok, Err}
use Rattle.record.proofs.Refusals.{same_error}
use Rattle.record.proofs.Numbers.{Among, not_among, row_among, fit_among}
use Rattle.record.proofs.Encode.{fields_encode}
use Rattle.record.proofs.Claims.{minimal_encode}
use Rattle.record.proofs.Outcome.{fit_wrote, outcome_take}
use Rattle.results.specs.Results.{limited, result_of, Limits, Gives}
use Rattle.results.specs.Built.{Built}

-- ---- rows 11 and 12

-- The result is one of the words, not of the automaton.
result_same : (a : ℕ) (A B : Automaton) (room : ℕ) → Same a (accepts A) (accepts B) → result_of a A room ≡ result_of a B room
unfolding result_of
result_same a A B room same = ap₂ (λ d bytes. limited d (fit room bytes)) (dimension_same a A B same) (fields_encode a (minimal_of a A) (minimal_of a B) (same_fields a A B same))

-- The automaton in a table with the words of A gives the result for A.
built_result : (a : ℕ) (L : Language) (A : Automaton) (t : List ℕ) (m : Machine) (room : ℕ) → Same a L (accepts A) → Built a L t m → result_of m.letters (automaton_in t m) room ≡ result_of a A room
built_result a L A t m room same b =
    ap (λ x. result_of x (automaton_in t m) room) b.letters ∙ result_same a (automaton_in t m) A room (λ w ow. sym (b.words w ow) ∙ same w ow)

module _ (a : ℕ) (A : Automaton) (room : ℕ) (g : Machine) (dimension : g.states ≡ dimension_of a A) where
  pub result_over : max_states < g.states → result_of a A room ≡ refused Dimension 0 g.states
  unfolding result_of
  result_over h =
      ap (λ d. limited d (fit room (encode a (minimal_of a A)))) (sym dimension)
      ∙ if_low max_states g.states (refused Dimension 0 g.states) (fit room (encode a (minimal_of a A))) h

  pub result_within : (s : List ℕ) → Minimises a A s g.states (mask g.initial) (mask g.finals) → g.letters ≡ a → g.states ≤ max_states → result_of a A room ≡ fit room (encode g.letters (automaton_in s g))
  unfolding result_of
  result_within s M e h =
      ap (λ d. limited d (fit room (encode a (minimal_of a A)))) (sym dimension)
      ∙ if_high max_states g.states (refused Dimension 0 g.states) (fit room (encode a (minimal_of a A))) h
      ∙ ap (fit room) (sym (ap (λ x. encode x (automaton_in s g)) e ∙ fields_encode a (automaton_in s g) (minimal_of a A) M.same_fields))

not_wrote : {rule : Rule} {which place : ℕ} {out : List ℕ} → refused rule which place ≡ wrote out → ⊥
not_wrote e = let z : ◌≡◌ {A = ℕ} 0 1 = cc in omega arith

result_wrote : (a : ℕ) (A : Automaton) (room : ℕ) (out : List ℕ) → result_of a A room ≡ wrote out → (dimension_of a A ≤ max_states) × (out ≡ encode a (minimal_of a A))
unfolding result_of
result_wrote a A room out e = go (dec_lt max_states (dimension_of a A))
  where
    go : Dec (max_states < dimension_of a A) → (dimension_of a A ≤ max_states) × (out ≡ encode a (minimal_of a A))
    go (yes h) = absurd (not_wrote (sym (if_low max_states (dimension_of a A) (refused Dimension 0 (dimension_of a A)) (fit room (encode a (minimal_of a A))) h) ∙ e))
    go (no h) = (omega arith, fit_wrote room (encode a (minimal_of a A)) out (sym (if_high max_states (dimension_of a A) (refused Dimension 0 (dimension_of a A)) (fit room (encode a (minimal_of a A))) (omega arith)) ∙ e))

-- The refusals of a result are rows 11 and 12, and where the dimension is not over the limit row 12 alone.
module _ (a : ℕ) (A : Automaton) (room : ℕ) where
  pub result_among : Among (11 ∷ 12 ∷ []) (result_of a A room)
  unfolding result_of
  result_among = row_among (ltb max_states (dimension_of a A)) Dimension 0 (dimension_of a A) _ (12 ∷ []) (fit_among room (encode a (minimal_of a A)))

  pub result_fits : dimension_of a A ≤ max_states → Among (12 ∷ []) (result_of a A room)
  unfolding result_of
  result_fits h =
      subst (Among (12 ∷ [])) (sym (if_high max_states (dimension_of a A) (refused Dimension 0 (dimension_of a A)) (fit room (encode a (minimal_of a A))) h))
      (fit_among room (encode a (minimal_of a A)))

-- ---- from the answer to what was done

pub answer_refused : (o : Outcome) (rule : Rule) (which place : ℕ) → answer_of o ≡ Err (refusal rule which place) → o ≡ refused rule which place
answer_refused (refused rule' w p) rule which place e = ap (λ r. refused r.rule r.record r.place) (same_error e)
answer_refused (wrote out) rule which place e = let z : ◌≡◌ {A = ℕ} 0 1 = cc in absurd (omega arith)

pub answer_done : (o : Outcome) (n : ℕ) → answer_of o ≡ Ok n → (out : List ℕ) × (o ≡ wrote out) × (n ≡ length out)
answer_done (refused rule which place) n e = let z : ◌≡◌ {A = ℕ} 0 1 = cc in absurd (omega arith)
answer_done (wrote out) n e = (out, refl, cc)

-- A limit that is tested once the earlier checks pass, and that no other row names.
module _ (rule : Rule) (limit d : ℕ) (rest o : Outcome) (Passed : Type 0) (Measures : ℕ → Type 0)
    (passed : Passed → o ≡ cond (ltb limit d) (refused rule 0 d) rest)
    (earlier : (k : ℕ) → o ≡ refused rule 0 k → Passed)
    (later : (k : ℕ) → rest ≡ refused rule 0 k → ⊥)
    (measure : Passed → Measures d) (unique : Passed → (k : ℕ) → Measures k → k ≡ d) where
  pub limits_of : (r : Result ℕ Refusal) → r ≡ answer_of o → Limits rule limit Passed Measures r
  limits_of r e = record {
    refuses = λ p k m h. e ∙ ap answer_of (passed p ∙ if_low limit d (refused rule 0 d) rest (omega (arith, unique p k m))) ∙ ap (λ x. Err (refusal rule 0 x)) (sym (unique p k m));
    only = λ k q. let h = answer_refused o rule 0 k (sym e ∙ q) in let p = earlier k h in go k p (sym (passed p) ∙ h) (dec_lt limit d);
  }
    where
      go : (k : ℕ) → Passed → cond (ltb limit d) (refused rule 0 d) rest ≡ refused rule 0 k → Dec (limit < d) → Passed × Measures k × (limit < k)
      go k p q (yes h) =
          let z = sym (if_low limit d (refused rule 0 d) rest h) ∙ q in
          let w : d ≡ k = cc in
          (p, subst Measures w (measure p), omega arith)
      go k p q (no h) = absurd (later k (sym (if_high limit d (refused rule 0 d) rest (omega arith)) ∙ q))

-- ---- what a service promises

-- Of an answer r and a buffer at exit: the answer and the buffer, and what is claimed over all words.
abbrev pub Promises : ℕ → Language → Type 0 → Outcome → List ℕ → List ℕ → Result ℕ Refusal → Type 0
Promises a L Passed o buf exit r = (r ≡ answer_of o) × ((exit ≡ buffer_of o buf) × Gives a L Passed exit r)

-- A refusal that leaves the buffer, and a result from an automaton in a table.
abbrev pub Service : ℕ → Language → Type 0 → List ℕ → Outcome → Type 0
Service a L Passed buf o =
    ((f : Refusal) (r : Result ℕ Refusal) → o ≡ refused f.rule f.record f.place → r ≡ Err f → Promises a L Passed o buf buf r)
    × ((t : List ℕ) (m : Machine) (exit : List ℕ) (r : Result ℕ Refusal) → Passed → Built a L t m
    → r ≡ answer_of (result_of m.letters (automaton_in t m) (length buf)) → exit ≡ buffer_of (result_of m.letters (automaton_in t m) (length buf)) buf → Promises a L Passed o buf exit r)

-- The promises of a service that gives the result for A once its checks pass, and writes or refuses by 11 only then.
module _ (a : ℕ) (L : Language) (A : Automaton) (same : Same a L (accepts A)) (Passed : Type 0) (sizes : Passed → (1 ≤ a) × (a ≤ max_letters))
    (buf : List ℕ) (o : Outcome) (passed : Passed → o ≡ result_of a A (length buf))
    (writes : (out : List ℕ) → o ≡ wrote out → Passed) (refuses : (k : ℕ) → o ≡ refused Dimension 0 k → Passed) where
  granted : (n : ℕ) → answer_of o ≡ Ok n → (take n (buffer_of o buf) ≡ encode a (minimal_of a A)) × (dimension_of a A ≤ max_states) × Passed
  granted n e =
      let g = answer_done o n e in
      let p = writes g.0 g.1 in
      let w = result_wrote a A (length buf) g.0 (sym (passed p) ∙ g.1) in
      (outcome_take o g.0 buf n g.1 g.2 ∙ w.1, w.0, p)

  limits : (r : Result ℕ Refusal) → r ≡ answer_of o → Limits Dimension max_states Passed (IsDimension a L) r
  unfolding result_of
  limits = limits_of Dimension max_states (dimension_of a A) (fit (length buf) (encode a (minimal_of a A))) o Passed (IsDimension a L) passed refuses
      (λ k. not_among (12 ∷ []) _ (fit_among (length buf) (encode a (minimal_of a A))) Dimension 0 k refl)
      (λ p. dimension_accepted a L A same)
      (λ p k m. dimension_unique a L k (dimension_of a A) m (dimension_accepted a L A same))

  -- What is claimed follows from the answer and the buffer.
  promises : (exit : List ℕ) (r : Result ℕ Refusal) → r ≡ answer_of o → exit ≡ buffer_of o buf → Promises a L Passed o buf exit r
  promises exit r answer buffer = (answer, (buffer, record { form = form; limits = limits r answer }))
    where
      form : (n : ℕ) → r ≡ Ok n → MinimalRecord a L (take n exit)
      form n e =
          let g = granted n (sym answer ∙ e) in
          let z = sizes g.2 in
          subst (MinimalRecord a L) (sym (ap (take n) buffer ∙ g.0)) (minimal_encode a z.0 z.1 L A same g.1)

  pub service_of : Service a L Passed buf o
  service_of = (
    λ f r e answer. promises buf r (answer ∙ ap answer_of (sym e)) (ap (λ x. buffer_of x buf) (sym e)),
    λ t m exit r p B answer buffer. let q = built_result a L A t m (length buf) same B ∙ sym (passed p) in promises exit r (answer ∙ ap answer_of q) (buffer ∙ ap (λ x. buffer_of x buf) q),
  )
