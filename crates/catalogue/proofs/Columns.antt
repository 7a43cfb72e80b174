-- The table of the source holds the entries' records: one computed test for each of its columns.
use mathlib.Core.Path.{◌≡◌, sym, ap, ◌∙◌}
use mathlib.Core.List.{List, [], ◌∷◌}
use Prim.Native.Nat.{ℕ, ◌+◌, ◌*◌, ◌≤◌, ◌<◌}
use native.Mathlib.Omega.{arith}
use lib.ListN.{length, get_or, get_or-map}
use Rattle.std.specs.Prelude.{map}
use Rattle.automata.specs.Fields.{rows_of}
use Rattle.automata.proofs.Fields.{rows_at_lem, rows_length}
use Rattle.record.specs.Bytes.{number}
use Rattle.record.specs.Record.{row_bytes, initial_at, final_at, states_of, letters_of, row_at}
use Rattle.record.proofs.RowList.{row_lt}
use Rattle.catalogue.specs.Entries.{last, record_of}
use Rattle.catalogue.specs.Told.{Tells}
use Rattle.catalogue.specs.declared.Entry.{Entry}
use Rattle.catalogue.proofs.Table.{values_below, value_at}

-- f of the entries of the table is g of the records.
abbrev Column : {X : Type 0} → List Entry → (Entry → X) → (List ℕ → X) → Type 0
Column es f g = map f es ≡ values_below 6 (λ j. g (record_of j))

column : {X : Type 0} (es : List Entry) (d : Entry) (f : Entry → X) (g : List ℕ → X) → Column es f g → (j : ℕ) → j ≤ last → f (get_or es j d) ≡ g (record_of j)
column es d f g e j h = sym (get_or-map f es j d) ∙ ap (λ xs. get_or xs j (f d)) e ∙ value_at 6 (λ j. g (record_of j)) (f d) j (omega arith)

abbrev table : Entry → Entry → Entry → Entry → Entry → Entry → List Entry
table a b c d e f = a ∷ b ∷ c ∷ d ∷ e ∷ f ∷ []

pub tells : (a b c d e f x : Entry)
    → Column (table a b c d e f) (λ e. e.states) states_of
    → Column (table a b c d e f) (λ e. e.letters) letters_of
    → Column (table a b c d e f) (λ e. e.initial) (λ bs. number row_bytes bs initial_at)
    → Column (table a b c d e f) (λ e. e.finals) (λ bs. number row_bytes bs final_at)
    → Column (table a b c d e f) (λ e. e.rows.now) (λ bs. rows_of (letters_of bs) (states_of bs) (row_at bs))
    → (j : ℕ) → j ≤ last → Tells (get_or (table a b c d e f) j x) (record_of j)
tells a b c d e f x states letters initial finals rows j h = let es : List Entry = table a b c d e f in record {
  states = column es x (λ e. e.states) states_of states j h;
  letters = column es x (λ e. e.letters) letters_of letters j h;
  initial = column es x (λ e. e.initial) (λ bs. number row_bytes bs initial_at) initial j h;
  finals = column es x (λ e. e.finals) (λ bs. number row_bytes bs final_at) finals j h;
  rows = column es x (λ e. e.rows.now) (λ bs. rows_of (letters_of bs) (states_of bs) (row_at bs)) rows j h;
}

-- The row of letter l and state i.
module _ (e : Entry) (bs : List ℕ) (T : Tells e bs) (l i : ℕ) (hl : l < letters_of bs) (hi : i < e.states) where
  pub row_within : l * e.states + i < length e.rows.now
  row_within = rw (T.rows, T.states, rows_length) (row_lt (letters_of bs) (states_of bs) l i hl (rw T.states at hi))

  pub row_told : get_or e.rows.now (l * e.states + i) 0 ≡ row_at bs l i
  row_told = rw (T.rows, T.states) (rows_at_lem (letters_of bs) (states_of bs) (row_at bs) l i hl (rw T.states at hi))
