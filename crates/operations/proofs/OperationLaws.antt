-- The outcomes of sum, product, complement and mirror, case by case, and their claims over all words.
use mathlib.Core.Path.{◌≡◌, sym, ap}
use mathlib.Core.List.{List, []}
use Prim.Native.Nat.{ℕ}
use lib.ListN.{length}
use Rattle.automata.specs.Automaton.{Automaton, accepts}
use Rattle.automata.specs.Language.{Language, symmetric_difference}
use Rattle.automata.specs.Cuts.{concatenation}
use Rattle.automata.specs.Operations.{sum_of, concatenation_of}
use Rattle.automata.proofs.Operations.{accepts_sum}
use Rattle.automata.proofs.ConcatenationOf.{accepts_concatenation}
use Rattle.record.specs.Record.{letters_of, check_of, WellFormed, automaton_of}
use Rattle.record.specs.Outcome.{Outcome, refused, checked}
use Rattle.std.specs.Prelude.{Err}
use Rattle.record.specs.Rules.{refusal_of}
use Rattle.record.specs.declared.Rule.TheVariants.{Dimension}
use Rattle.record.specs.declared.Refusal.{Refusal}
use Rattle.record.proofs.Outcome.{checked_wrote, checked_refused}
use Rattle.record.specs.Claims.{Operands}
use Rattle.operands.specs.Meant.{blank_of}
use Rattle.operands.specs.Operands.{pair_of, after_pair}
use Rattle.operands.proofs.MeantLaws.{SameFor, writes_blank}
use Rattle.results.specs.Results.{result_of}
use Rattle.results.proofs.ResultLaws.{Service, service_of}
use Rattle.results.proofs.Passed.{sizes, unnamed_checked, pair_wrote, unnamed_pair, pair_passed}
use Rattle.operations.specs.Operations.{sum_outcome, product_outcome, binary_outcome, unary_outcome}

-- ---- sum and product

-- An operation on two languages, and an automaton for its words.
module _ (op : Language → Language → Language) (make : Automaton → Automaton → Automaton)
    (accepted : (A B : Automaton) (w : List ℕ) → accepts (make A B) w ≡ op (accepts A) (accepts B) w) (bs cs : List ℕ) where
  abbrev result : ℕ → Outcome
  result room = result_of (letters_of bs) (make (automaton_of bs) (automaton_of cs)) room

  pub binary_service : (buf : List ℕ) → Service (letters_of bs) (op (accepts (automaton_of bs)) (accepts (automaton_of cs))) (Operands bs cs) buf (binary_outcome make bs cs (length buf))
  binary_service buf =
      service_of (letters_of bs) (op (accepts (automaton_of bs)) (accepts (automaton_of cs))) (make (automaton_of bs) (automaton_of cs))
      (λ w ow. sym (accepted (automaton_of bs) (automaton_of cs) w)) (Operands bs cs) (λ p. sizes bs p.0) buf
      (after_pair (pair_of bs cs) (result (length buf))) (pair_passed bs cs (result (length buf))) (pair_wrote bs cs (result (length buf))) (unnamed_pair bs cs (result (length buf)) Dimension)

-- The automata of sum and product accept the words of the operation.
pub binary_words_lem : (A B : Automaton) (w : List ℕ) → (symmetric_difference (accepts A) (accepts B) w ≡ accepts (sum_of A B) w) × (concatenation (accepts A) (accepts B) w ≡ accepts (concatenation_of A B) w)
binary_words_lem A B w = (sym (accepts_sum A B w), sym (accepts_concatenation A B w))

-- For a blank the answer and the buffer are those for the record of 15 bytes that it stands for.
pub sum_blank : (buf bs : List ℕ) → SameFor sum_outcome buf bs [] (blank_of (letters_of bs))
sum_blank = writes_blank sum_outcome

pub product_blank : (buf bs : List ℕ) → SameFor product_outcome buf bs [] (blank_of (letters_of bs))
product_blank = writes_blank product_outcome

-- ---- complement and mirror

-- An operation on a language, and an automaton for its words.
module _ (op : Language → Language) (make : Automaton → Automaton) (accepted : (A : Automaton) (w : List ℕ) → accepts (make A) w ≡ op (accepts A) w) (bs : List ℕ) where
  pub unary_refused : (room : ℕ) {r : Refusal} → Err r ≡ refusal_of (check_of bs) 1 → unary_outcome make bs room ≡ refused r.rule r.record r.place
  unfolding unary_outcome
  unary_refused room e = checked_refused (check_of bs) 1 _ e

  pub unary_service : (buf : List ℕ) → Service (letters_of bs) (op (accepts (automaton_of bs))) (WellFormed bs) buf (unary_outcome make bs (length buf))
  unfolding unary_outcome
  unary_service buf =
      service_of (letters_of bs) (op (accepts (automaton_of bs))) (make (automaton_of bs)) (λ w ow. sym (accepted (automaton_of bs) w)) (WellFormed bs) (sizes bs) buf (checked (check_of bs) 1 result)
      (λ good. ap (λ c. checked c 1 result) good) (λ out e. (checked_wrote (check_of bs) 1 result out e).0) (λ k e. unnamed_checked (check_of bs) result Dimension k e)
    where
      result : Outcome
      result = result_of (letters_of bs) (make (automaton_of bs)) (length buf)
