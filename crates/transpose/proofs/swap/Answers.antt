-- `swap`: what the calls give is the exchange of the two rows, by SwapLaws, and no bit is lost on the way up.
use mathlib.Core.Path.{◌≡◌, sym, ap, ap₂, subst, ◌∙◌}
use Prim.Native.Nat.{ℕ, ◌+◌, ◌*◌, ◌/◌, ◌^◌, ◌<◌}
use native.Mathlib.Nat.{add_comm}
use native.Mathlib.Omega.{arith}
use lib.Bits.{bit_and, bit_xor}
use lib.Pow.{pow-lt}
use Rattle.rows.specs.Row.{width, levels, mask}
use Rattle.rows.specs.Table.{at, stored}
use Rattle.transpose.specs.Exchange.{flip}
use Rattle.transpose.proofs.FlipLaws.{flip_lt, flip_add}
use Rattle.transpose.proofs.SwapLaws.{difference, difference_fits}
use Rattle.transpose.proofs.StageLaws.{swap_stored}
use Rattle.transpose.proofs.swap.Goals.{After-and-d, After-power-s}
use Rattle.transpose.proofs.swap.Goals as goal

-- The partner's number.
there : (c : After-power-s) → c.args.r + c.power-s.result ≡ flip c.args.b c.args.r
there c =
    let a = c.args in
    ap (λ s. a.r + s) c.power-s.ensures ∙ add_comm a.r (2 ^ a.b) ∙ sym (flip_add a.b a.r c.requires.4)

near : (c : After-power-s) → (c.power-s.result < width) × (c.args.r + c.power-s.result < width)
near c = (
  subst (λ n. n < width) (sym c.power-s.ensures) (pow-lt {i = c.args.b} {j = levels} c.requires.1),
  subst (λ n. n < width) (sym (there c)) (flip_lt levels c.args.b c.args.r c.requires.1 c.requires.3),
)

-- What trades, and what it is moved up to.
module _ (c : After-and-d) where
  abbrev bit : ℕ
  bit = c.args.b

  abbrev first : ℕ
  first = mask c.load-p.result

  abbrev second : ℕ
  second = mask c.load-q.result

  abbrev step : ℕ
  step = c.power-s.result

  trades : mask c.and-d.result ≡ difference bit first second
  trades =
      let u = c in
      c.and-d.ensures
      ∙ ap₂ bit_and
      (c.xor-e.ensures ∙ ap (λ v. bit_xor v second) (c.lowered-v.ensures ∙ ap (λ s. first / 2 ^ s) u.power-s.ensures))
      u.requires.2

  moves : mask c.and-d.result * 2 ^ step ≡ difference bit first second * 2 ^ (2 ^ bit)
  moves = ap₂ (λ d s. d * 2 ^ s) trades c.power-s.ensures

pub overflow_add-r : goal.overflow_add-r
overflow_add-r c = omega (arith, near (goal.at.overflow_add-r c).After-power-s)

pub load-q-requires : goal.load-q-requires
load-q-requires c = (c.requires.0, (near (goal.at.overflow_add-r c).After-power-s).1)

pub lowered-v-requires : goal.lowered-v-requires
lowered-v-requires c = (near (goal.at.lowered-v-requires c).After-power-s).0

pub moved-u-requires : goal.moved-u-requires
moved-u-requires c = (
  (near (goal.at.moved-u-requires c).After-power-s).0,
  subst (λ n. n < 2 ^ width) (sym (moves c)) (difference_fits c.args.b (mask c.load-p.result) (mask c.load-q.result) c.requires.1),
)

pub overflow_add-r-2 : goal.overflow_add-r-2
overflow_add-r-2 c = omega (arith, near (goal.at.overflow_add-r-2 c).After-power-s)

pub store-requires-2 : goal.store-requires-2
store-requires-2 c =
    (c.requires.0, (near (goal.at.overflow_add-r-2 c).After-power-s).1)

pub returns : goal.returns
returns c =
    let a = c.args in
    swap_stored a.l a.b a.r a.t.now c.requires.1 c.requires.0 c.requires.3 c.requires.4 c.told-t
    (mask c.load-p.result) (mask c.load-q.result) (mask c.xor-x.result) (mask c.xor-y.result) c.store.new.t c.store-2.new.t
    c.load-p.ensures (c.load-q.ensures ∙ ap (at a.t.now a.l) (there (goal.at.returns c).After-power-s))
    (c.xor-x.ensures ∙ ap (bit_xor (mask c.load-p.result)) (c.moved-u.ensures ∙ moves (goal.at.returns c).After-and-d))
    (c.xor-y.ensures ∙ ap (bit_xor (mask c.load-q.result)) (trades (goal.at.returns c).After-and-d))
    c.store.ensures (c.store-2.ensures ∙ ap (λ i. stored c.store.new.t a.l i (mask c.xor-y.result)) (there (goal.at.returns c).After-power-s))
