-- `put_field`: the first four bytes of the number are its low bytes, and they are stored as one run.
use mathlib.Core.Path.{◌≡◌, refl, sym, ◌∙◌}
use mathlib.Core.List.{List, append_assoc}
use Prim.Native.Nat.{ℕ, ◌+◌, ◌≤◌, ◌/◌, ◌%◌, ◌^◌}
use native.Mathlib.Omega.{arith}
use lib.ListN.{length, take, drop}
use lib.Seq.{sets, sets-eq}
use borrow.Rule.Slice.PartMut.{put_mid}
use Rattle.std.specs.Int.{w64, to_le_bytes}
use Rattle.std.proofs.lemmas.List.Edits.{paste_all}
use Rattle.std.proofs.lemmas.Slice.{put_mid-paste}
use Rattle.rows.specs.Row.{mask}
use Rattle.record.specs.Bytes.{bytes_of}
use Rattle.codec.proofs.put_field.Goals as goal

low_bytes : (x : ℕ) → take 4 (to_le_bytes w64 x) ≡ bytes_of 4 x
unfolding bytes_of
low_bytes x =
    let two : x / 256 ^ 2 % 256 ≡ x / 256 / 256 % 256 = omega arith in
    let three : x / 256 ^ 3 % 256 ≡ x / 256 / 256 / 256 % 256 = omega arith in
    rw (two, three) refl

-- A part of a list that is written as a whole.
run_stored : (l : List ℕ) (p k : ℕ) (ys vs : List ℕ) → ys ≡ vs → k ≡ length vs → p + k ≤ length l → put_mid p k l ys ≡ sets l p vs
run_stored l p k ys vs e n h =
    put_mid-paste p k l ys vs k e refl n ∙ paste_all l p vs k n ∙ rw n (sym (append_assoc (take p l) vs (drop (p + length vs) l)) ∙ sym (sets-eq vs l p (rw n at h)))

pub returns : goal.returns
unfolding bytes_of
returns c =
    let e : take 4 c.to_le_bytes-bytes.result ≡ bytes_of 4 (mask c.args.x) = rw (c.to_le_bytes-bytes.ensures, c.from.ensures) (low_bytes (mask c.args.x)) in
    run_stored _ c.args.p _ _ _ (c.copy_from_slice.ensures.after ∙ e) (omega arith) (omega arith)
