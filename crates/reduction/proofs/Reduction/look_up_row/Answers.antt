-- `look_up_row`: the letters below l are done.
use mathlib.Core.Path.{◌≡◌, sym, ap, ◌∙◌}
use native.Mathlib.Omega.{arith}
use Rattle.rows.specs.Row.{mask}
use Rattle.reduction.proofs.TableSearch.{found_low, searching_full, searching_next}
use Rattle.reduction.proofs.Reduction.look_up_row.Goals as goal

pub loop-l-preserved : goal.loop-l-preserved
loop-l-preserved c =
    let v = c.loop-l in
    let F = v.invariant.1 in
    let h = c.loop-l-test.true in
    let K = c.requires.3 in
    let low = found_low _ _ _ _ _ _ c.requires.0.search.basis _ c.requires.1 in (
      searching_full _ _ _ _ _ v.self.source.valid _ _ _ _ _ _ _ v.invariant.0 (rw F.size c.requires.1) (rw F.source h) (rw (F.size, F.source) c.requires.2)
          (mask c.pick-z.result) (rw (F.source, F.basis) (c.pick-z.ensures ∙ c.multiply-y.ensures _ low v.l h)) c.args.tab.now.groups c.args.tab.now.entries (rw (F.size, F.basis) K)
          (mask c.times-c.result) (rw (F.size, F.basis) (c.times-c.ensures _ K.tabled)) _ c.store.ensures,
      record { source = F.source; basis = F.basis; size = F.size; out = F.out },
    )

pub returns : goal.returns
returns c =
    let v = c.loop-l in
    let F = v.invariant.1 in
    let last : v.l ≡ c.args.self.now.source.machine.letters = omega arith in
    let e : v.l ≡ v.self.source.machine.letters = last ∙ sym (ap (λ s. s.machine.letters) F.source) in
    (searching_next _ _ _ _ _ _ _ _ _ _ _ (rw e at v.invariant.0), F)
