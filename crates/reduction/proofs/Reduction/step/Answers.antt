-- `step`: the product is as short as the rows of the matrix; placed, its coordinates go to the table.
use mathlib.Core.Path.{refl, sym, subst}
use Prim.Native.Nat.{◌^◌, ◌<◌}
use native.Mathlib.Omega.{arith}
use Rattle.rows.proofs.ProductLaws.{product_lt}
use Rattle.reduction.proofs.TableSearch.{count_bound, searching_step, placed_more, placed_kept}
use Rattle.reduction.proofs.Reduction.step.Goals as goal

pub place-q-requires : goal.place-q-requires
place-q-requires c =
    let G = c.requires.0 in
    let m = c.args.self.now.source in
    (m.valid.states, m.valid.states, omega (arith, G.base), subst (λ y. y < 2 ^ m.machine.states) (sym c.requires.3) (product_lt _ _ _ _ (λ i h. m.valid.rows c.args.l i c.requires.2 h)), G.search.basis, G.cover)

pub store-requires : goal.store-requires
store-requires c =
    let v = c.args.self.now.source.valid in
    (omega (arith, v.letters, c.requires.2), omega (arith, count_bound _ _ _ _ _ _ c.requires.0.search.basis, v.states, c.requires.1))

pub returns : goal.returns
returns c =
    let q = c.place-q.ensures in (
      searching_step _ _ _ _ _ c.args.self.now.source.valid _ _ _ _ _ _ _ c.requires.0 c.requires.1 c.requires.2 _ c.requires.3 _ _ _ _ _ _ q c.store.ensures,
      record { source = refl; basis = refl; out = refl; more = placed_more _ _ _ _ _ _ _ _ _ _ _ _ _ _ q },
      placed_kept _ _ _ _ _ _ _ _ _ _ _ _ _ _ q _ c.requires.1,
    )
