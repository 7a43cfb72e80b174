-- The bytes of a whole record pass rows 1 to 6: the record check can refuse them only by row 7.
use mathlib.Core.Path.{◌≡◌, sym, ◌∙◌}
use mathlib.Core.List.{List}
use Prim.Native.Nat.{ℕ, ◌+◌, ◌-◌, ◌*◌, ◌≤◌, ◌<◌}
use native.Mathlib.Omega.{arith}
use lib.ListN.{length, get_or, take, drop, length-drop}
use lib.Seq.{get_or-take, length-take-le}
use Rattle.record.specs.Record.{header, row_bytes, initial_at, states_of, letters_of, front_of, need_of, check_of}
use Rattle.record.specs.declared.Rule.TheVariants.{StrayBit}
use Rattle.record.specs.declared.Fault.{Fault}
use Rattle.std.specs.Prelude.{Ok, Err, Some}
use Rattle.record.proofs.Bytes.{number_2}
use Rattle.record.proofs.Refusals.{good_front, front_good, fields_met, stray_seven}
use Rattle.script.specs.Script.{whole, part_at, bytes_at}
use Rattle.script.proofs.Parts.{whole_stands}

-- Rows 1 to 5 and the length that they need look at the first 7 bytes only.
module _ (l m : List ℕ) (same : (i : ℕ) → i < header → get_or m i 0 ≡ get_or l i 0) where
  pub need_same : need_of m ≡ need_of l
  need_same = rw (same 5 (omega arith), same 6 (omega arith))

  pub front_same : header ≤ length m → front_of l ≡ Ok tt → front_of m ≡ Ok tt
  front_same long e =
      let f = good_front l e in
      front_good m (record {
        long = long;
        mark₀ = same 0 (omega arith) ∙ f.mark₀;
        mark₁ = same 1 (omega arith) ∙ f.mark₁;
        mark₂ = same 2 (omega arith) ∙ f.mark₂;
        version = number_2 m 3 ∙ rw (same 3 (omega arith), same 4 (omega arith)) (sym (number_2 l 3) ∙ f.version);
        states = rw (same 5 (omega arith)) f.states;
        some = rw (same 6 (omega arith)) f.some;
        letters = rw (same 6 (omega arith)) f.letters;
      })

taken : (l : List ℕ) (k : ℕ) → header ≤ k → (i : ℕ) → i < header → get_or (take k l) i 0 ≡ get_or l i 0
taken l k long i h = get_or-take k l i 0 (omega arith)

module _ (s : List ℕ) (at start next : ℕ) (e : part_at s at ≡ Some (Ok (whole start next))) where
  pub length_whole : length (bytes_at s start next) ≡ next - start
  length_whole =
      let w = whole_stands s at start next e in
      let l = length-drop start s in
      length-take-le (next - start) (drop start s) (omega arith)

  pub front_whole : front_of (bytes_at s start next) ≡ Ok tt
  front_whole =
      let w = whole_stands s at start next e in
      let l = length-drop start s in
      front_same (drop start s) (bytes_at s start next) (taken (drop start s) (next - start) (omega arith)) (rw length_whole (omega arith)) w.front

  pub need_whole : length (bytes_at s start next) ≡ need_of (bytes_at s start next)
  need_whole =
      let w = whole_stands s at start next e in
      let n = need_same (drop start s) (bytes_at s start next) (taken (drop start s) (next - start) (omega arith)) in
      length_whole ∙ omega arith

  pub whole_seven : (f : Fault) → check_of (bytes_at s start next) ≡ Err f → f.rule ≡ StrayBit
  whole_seven f r =
      let bs = bytes_at s start next in
      stray_seven row_bytes (states_of bs) bs (2 + letters_of bs * states_of bs) initial_at f (fields_met bs front_whole need_whole ∙ r)
