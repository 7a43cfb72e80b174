-- `stage`: the pairs whose lower row is below r have exchanged bit b, and r is where a run starts.
use mathlib.Core.Path.{◌≡◌, sym, ap, subst, ◌∙◌}
use mathlib.Core.Bool.{true, false}
use Prim.Native.Nat.{ℕ, suc, ◌+◌, ◌*◌, ◌^◌, ◌≤◌, ◌<◌, zero-le}
use native.Mathlib.Nat.{zero-mul}
use native.Mathlib.Omega.{arith}
use lib.Pow.{pow_mono}
use Rattle.automata.specs.Mask.{bit_of}
use Rattle.rows.specs.Row.{width, levels}
use Rattle.rows.specs.Table.{row}
use Rattle.transpose.specs.Exchange.{staged, HasRows, OnlyBlock}
use Rattle.transpose.proofs.BlockLaws.{only_start, only_then}
use Rattle.transpose.proofs.StageLaws.{stage_start, stage_run, stage_end, run_clear, run_set, run_next, run_room}
use Rattle.transpose.proofs.stage.Goals.{In-loop-r, After-swap_run}
use Rattle.transpose.proofs.stage.Goals as goal

-- A run that starts below 2 ^ w has room for itself and its partners.
module _ (c : In-loop-r) where
  abbrev r : ℕ
  r = c.loop-r.r

  abbrev w : ℕ
  w = c.args.w

  abbrev b : ℕ
  b = c.args.b

  abbrev h : ℕ
  h = c.loop-r.invariant.3.0

  start : r ≡ h * 2 ^ suc b
  start = c.loop-r.invariant.3.1

  room : r + 2 ^ b + 2 ^ b ≤ 2 ^ w
  room =
      let inside : r < 2 ^ w = omega (arith, c.loop-r-test.true, c.power-n.ensures) in
      subst (λ x. x + 2 ^ b + 2 ^ b ≤ 2 ^ w) (sym start) (run_room b w h c.requires.2 (subst (λ x. x < 2 ^ w) start inside))

  limit : 2 ^ w ≤ width
  limit = pow_mono {i = w} {j = levels} c.requires.1

  clear : (i : ℕ) → i < 2 ^ b → bit_of (r + i) b ≡ false
  clear i g = subst (λ x. bit_of (x + i) b ≡ false) (sym start) (run_clear b h i g)

  set_after : (x : ℕ) → r + 2 ^ b ≤ x → x < r + 2 ^ b + 2 ^ b → bit_of x b ≡ true
  set_after x g f = run_set b h x (subst (λ z. z + 2 ^ b ≤ x) start g) (subst (λ z. x < z + 2 ^ b + 2 ^ b) start f)

  twice : r + 2 * c.power-s.result ≡ r + 2 ^ b + 2 ^ b
  twice = omega (arith, c.power-s.ensures)

  next : r + 2 * c.power-s.result ≡ suc h * 2 ^ suc b
  next = twice ∙ ap (λ x. x + 2 ^ b + 2 ^ b) start ∙ run_next b h

pub loop-r-init : goal.loop-r-init
loop-r-init c =
    let a = c.args in
    (zero-le, only_start a.l a.t.now c.told-t, stage_start a.l a.b 0 (2 ^ a.w) a.t.now, (0, sym (zero-mul (2 ^ suc a.b))))

pub swap_run-requires : goal.swap_run-requires
swap_run-requires c =
    let p = (goal.at.swap_run-requires c).In-loop-r in
    (c.requires.0, omega arith, c.stripes-m.ensures, omega (arith, room p, limit p), clear p)

-- The run is exchanged too, and another may start behind its partners.
after : (c : After-swap_run) → let a = c.args in ((x : ℕ) → c.loop-r.r + 2 ^ a.b ≤ x → x < c.loop-r.r + 2 ^ a.b + 2 ^ a.b → bit_of x a.b ≡ true)
    → OnlyBlock a.l a.t.now c.swap_run.new.t × HasRows a.l (2 ^ a.w) (staged a.b 0 (c.loop-r.r + 2 ^ a.b + 2 ^ a.b) (row a.t.now a.l)) c.swap_run.new.t
after c behind =
    let a = c.args in
    let v = c.loop-r in (
      only_then a.l a.t.now v.t c.swap_run.new.t v.invariant.1 c.swap_run.ensures.0,
      stage_run a.l a.b a.w v.r (v.r + 2 ^ a.b) (v.r + 2 ^ a.b + 2 ^ a.b) (row a.t.now a.l) v.t c.swap_run.new.t c.requires.1 c.requires.2 (omega arith) (omega arith)
          behind c.swap_run.ensures.1 v.invariant.2,
    )

pub loop-r-preserved : goal.loop-r-preserved
loop-r-preserved c =
    let a = c.args in
    let p = (goal.at.loop-r-preserved c).In-loop-r in
    let s = after (goal.at.loop-r-preserved c).After-swap_run (set_after p) in (
      omega (arith, twice p, room p),
      s.0,
      subst (λ x. HasRows a.l (2 ^ a.w) (staged a.b 0 x (row a.t.now a.l)) c.swap_run.new.t) (sym (twice p)) s.1,
      (suc (h p), next p),
    )

pub returns : goal.returns
returns c =
    let v = c.loop-r in
    let a = c.args in
    let e : v.r ≡ 2 ^ a.w = omega (arith, c.power-n.ensures) in
    (v.invariant.1, stage_end a.l a.b (2 ^ a.w) (row a.t.now a.l) v.t (rw e at v.invariant.2))

-- After the last run.
pub returns-2 : goal.returns-2
returns-2 c =
    let a = c.args in
    let p = (goal.at.returns-2 c).In-loop-r in
    let s = after (goal.at.returns-2 c).After-swap_run (set_after p) in
    let e : c.loop-r.r + 2 ^ a.b + 2 ^ a.b ≡ 2 ^ a.w = omega (arith, twice p, room p, c.power-n.ensures) in
    (s.0, stage_end a.l a.b (2 ^ a.w) (row a.t.now a.l) c.swap_run.new.t (rw e at s.1))
