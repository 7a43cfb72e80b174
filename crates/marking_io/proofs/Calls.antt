-- How many bytes were moved, and which: what the calls gave is the front of what the reader had; how many bytes a buffer has.
use Rattle.std.proofs.Common.{◌≡◌, ℕ, ◌+◌, ◌-◌, ◌≤◌, List, ◌++◌, None, Some, IfSome, Option, length, take, replicate, sym, ap, subst, ◌∙◌, append-nil, take_at, length-take-le}
use Rattle.std.specs.Io.KnownBytes.{Consumes, IsAtEnd}
use Rattle.std.proofs.KnownBytes.{Consumes-trans}
use Rattle.std.specs.Prelude.{Result, Ok, Err}
use Rattle.std.specs.declared.io.Error.{Error}
use Rattle.marking_io.specs.Calls.{Reads}
use Rattle.marking_io.specs.Program.{MarksRead, MarksFrom}
use Rattle.marking_io.specs.declared.MarkError.{MarkError}
use Rattle.marking_io.specs.declared.MarkError.TheVariants.{Unreadable, Unwritable}
use borrow.Rule.Slice.PartMut.{post_of, put_mid}
use lib.ListN.{length-replicate}
use lib.Seq.{take-append-le, take-append-add, take_all}

-- By a law, since a buffer is too long to be counted.
pub zeros : (n : ℕ) → n ≡ length {A = ℕ} (replicate n 0)
zeros n = sym (length-replicate n 0)

-- A reader that is at its end gave all that it had.
pub read_all : (most : ℕ) (a b : Option (List ℕ)) (s : List ℕ) → Consumes a b s → IsAtEnd b → length s ≤ most → IfSome a (λ xs. s ≡ take most xs)
read_all most None b s p q h = tt
read_all most (Some xs) None s p q h = absurd p
read_all most (Some xs) (Some ys) s p q h = let all : xs ≡ s = p ∙ ap (λ l. s ++ l) q ∙ append-nil s in subst (λ l. s ≡ take most l) (sym all) (sym (take_all most s h))

-- As much as is read at most is the front of what it had.
pub read_full : (most : ℕ) (a b : Option (List ℕ)) (s : List ℕ) → Consumes a b s → length s ≡ most → IfSome a (λ xs. s ≡ take most xs)
read_full most None b s p h = tt
read_full most (Some xs) None s p h = absurd p
read_full most (Some xs) (Some ys) s p h = sym (ap (take most) p ∙ take_at s ys most h)

-- A read behind the first n bytes of a buffer, into its part from there on.
module _ (n k : ℕ) (b back : List ℕ) (h : n ≤ length b) (g : k ≤ length back) where
  abbrev after : List ℕ
  after = put_mid n (length b - n) b back

  front : take (n + k) after ≡ take n b ++ take k back
  front =
      let post = post_of n (length b - n) b in
      subst (λ m. take (m + k) (take n b ++ (back ++ post)) ≡ take n b ++ take k back) (length-take-le n b h)
      (take-append-add (take n b) (back ++ post) k ∙ ap (λ l. take n b ++ l) (take-append-le k back post g))

  pub read_behind : (x y z : Option (List ℕ)) → Consumes x y (take n b) → Consumes y z (take k back) → Consumes x z (take (n + k) after)
  read_behind x y z p q = subst (Consumes x z) (sym front) (Consumes-trans x y z (take n b) (take k back) p q)

-- The script that is marked is the one that was read.
pub marks_from : (i : Result ℕ Error) (m : Result Unit MarkError) (left old new : Option (List ℕ)) (b : List ℕ) → Reads i left b → MarksRead i m old new b → MarksFrom left m old new
marks_from (Ok k) (Ok done) left old new b p q = (take k b, p, q)
marks_from (Ok k) (Err (Unreadable e)) left old new b p q = absurd q
marks_from (Ok k) (Err (Unwritable e)) left old new b p q = (take k b, p, q)
marks_from (Err e) m left old new b p q = subst (λ (x : Result Unit MarkError). MarksFrom left x old new) (sym q.0) q.1
