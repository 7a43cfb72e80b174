-- A line says `refused` only with the numbers of the checks of two records, 1 to 8.
use mathlib.Core.Path.{refl, subst}
use mathlib.Core.Bool.{Bool, true, false, cond}
use mathlib.Core.List.{List, [], ◌∷◌}
use mathlib.Core.Option.{Option, none, some}
use Prim.Native.Nat.{ℕ}
use lib.Dec.{ltb, eqb}
use lib.ListN.{length}
use Rattle.automata.specs.Count.{Member}
use Rattle.automata.proofs.Count.{mem_left}
use Rattle.record.specs.Record.{check_of, language_of}
use Rattle.std.specs.Prelude.{None, Some, Ok, Err}
use Rattle.record.specs.Rules.{number_of, Check, Checks, fault}
use Rattle.record.specs.declared.Fault.{Fault}
use Rattle.record.proofs.Numbers.{CheckAmong, check_numbers, check_numbers_lem}
use Rattle.operands.specs.Operands.{pair_of}
use Rattle.operands.proofs.Numbers.{pair_numbers, PairAmong, pair_numbers_lem}
use Rattle.verdict.specs.Side.{side_of}
use Rattle.compare.specs.Compare.{difference_of}
use Rattle.script.specs.Script.{Part, part_at, bytes_at}
use Rattle.script.proofs.Parts.{PartAmong, part_numbers}
use Rattle.lines.specs.Lines.{refused_line, key_line, too_long_line}
use Rattle.lines.proofs.Readable.{refused_number, key_not_refused, same_not_refused, differ_not_refused, long_not_refused, none_not_refused}
use Rattle.walk.specs.Walk.{place_of}
use Rattle.marking.specs.Marking.{max_script, dimension_in, fault_line, checked_line, key_record_line, verdict_line, paired_line, answer_line, key_of, record_line, part_line, line_at, mark_line}
use Rattle.marking.specs.Told.{RefusedWith}

abbrev Only : List ℕ → Type 0
Only = RefusedWith pair_numbers

-- A line of a refusal says its number, and no other.
refused_only : (index number place : ℕ) → Member number pair_numbers → Only (refused_line index number place)
refused_only index number place m i n p e = subst (λ k. Member k pair_numbers) (refused_number index i number n place p e) m

fault_only : (index : ℕ) (f : Fault) → Member (number_of f.rule) pair_numbers → Only (fault_line index f)
fault_only index f m = refused_only index (number_of f.rule) f.place m

checked_only : (index : ℕ) (f : Fault) → Member (number_of f.rule) check_numbers → Only (fault_line index f)
checked_only index f m = fault_only index f (mem_left (number_of f.rule) check_numbers (8 ∷ []) m)

key_only : (key : List ℕ) → Only (key_record_line key)
unfolding key_record_line
key_only key = go (check_of key) (check_numbers_lem key)
  where
    go : (c : Check) → CheckAmong check_numbers c → Only (checked_line c (key_line (dimension_in key)))
    go (Ok u) n = λ i k p e. absurd (key_not_refused i k p (dimension_in key) e)
    go (Err f) n = checked_only 0 f (n f refl)

answer_only : (index : ℕ) (key answer : List ℕ) → Only (answer_line index key answer)
unfolding answer_line
answer_only index key answer = go (pair_of key answer) (pair_numbers_lem key answer) (difference_of key answer)
  where
    go : (q : Checks) → PairAmong pair_numbers q → (d : Option (List ℕ)) → Only (paired_line index q (verdict_line index key (dimension_in answer) d))
    go (Err r) m d = fault_only index (fault r.rule r.place) m
    go (Ok u) m none = λ i n p e. absurd (same_not_refused i n p index (dimension_in answer) e)
    go (Ok u) m (some w) = λ i n p e. absurd (differ_not_refused i n p index (dimension_in answer) w (side_of (language_of key w)) e)

record_only : (s : List ℕ) (index : ℕ) (bs : List ℕ) → Only (record_line s index bs)
unfolding record_line
record_only s index bs = go (eqb index 0)
  where
    go : (b : Bool) → Only (cond b (key_record_line bs) (answer_line index (key_of s) bs))
    go true = key_only bs
    go false = answer_only index (key_of s) bs

part_only : (s : List ℕ) (index : ℕ) (p : Part) → PartAmong check_numbers p → Only (part_line s index p)
part_only s index (Some (Ok w)) m = record_only s index (bytes_at s w.start w.next)
part_only s index (Some (Err f)) m = checked_only index f m
part_only s index None m = λ i n p e. absurd (none_not_refused i n p e)

-- Whatever stands at a position.
pub line_refusals : (s : List ℕ) (index at : ℕ) → RefusedWith pair_numbers (line_at s index at)
unfolding line_at
line_refusals s index at = go (ltb max_script (length s)) (eqb index 0)
  where
    go : (b c : Bool) → Only (cond b (cond c too_long_line []) (part_line s index (part_at s at)))
    go true true = λ i n p e. absurd (long_not_refused i n p e)
    go true false = λ i n p e. absurd (none_not_refused i n p e)
    go false c = part_only s index (part_at s at) (part_numbers s at)

pub mark_refusals : (s : List ℕ) (index : ℕ) → RefusedWith pair_numbers (mark_line s index)
unfolding mark_line
mark_refusals s index = line_refusals s index (place_of s index)
