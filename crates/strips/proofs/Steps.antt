-- What one step draws and costs, by the decisions on its strip and the budget. Assumes nothing.
use mathlib.Core.Path.{◌≡◌, refl, sym, ap, ap₂, ◌∙◌}
use mathlib.Core.Bool.{Bool, true, false, cond, ◌||◌}
use Prim.Native.Nat.{ℕ, ◌-◌}
use native.Mathlib.Omega.{arith}
use lib.ListN.{get_or}
use Rattle.search.specs.Radix.{below}
use Rattle.search.proofs.Radix.{below-splits}
use Rattle.arrays.specs.Given.{Given, instance_of}
use Rattle.optimum.specs.Strips.{Point, Strip, Instance, opens, joins_up, joins_down, cost, draw}
use Rattle.optimum.specs.OneSided.{top_word}
use Rattle.strips.specs.Strips.{instance_on, open_cost, join_cost}
use Rattle.strips.proofs.Decisions.{opens-on, cost-on, cost-opens, cost-joins}
use Rattle.strips.specs.Steps.{price_in, budget_left}

module _ (g : Given) where
  abbrev P : Instance
  P = instance_of g

  -- what is decided on the strip has no part of radices and draws
  abbrev on : Instance
  on = instance_on g.measures g.heights g.bounds

  module _ (p : Strip) (s : Point) (k : ℕ) where
    draw-opens : opens on p s k ≡ true → draw P p s k ≡ get_or g.draws s.c 0
    unfolding draw
    draw-opens e = rw (opens-on g.measures g.heights g.bounds g.radices g.draws p s k, e)

    draw-joins : opens on p s k ≡ false → draw P p s k ≡ 0
    unfolding draw
    draw-joins e = rw (opens-on g.measures g.heights g.bounds g.radices g.draws p s k, e)

    -- a step that opens a label draws from the budget
    pub step-opens : (v : ℕ) {drawn c : ℕ} (had : Bool) → opens on p s k ≡ true → drawn ≡ get_or g.draws s.c 0 → had ≡ below g.radices drawn v → c ≡ open_cost g.measures g.heights s k
        → (v - drawn ≡ budget_left P p s v k) × (cond had c top_word ≡ price_in P p s v k)
    step-opens v {drawn} {c} had o e f h =
        let d : drawn ≡ draw P p s k = e ∙ sym (draw-opens o) in
        let w : c ≡ cost P p s k = h ∙ sym (cost-opens g.measures g.heights g.bounds p s k o) ∙ sym (cost-on g.measures g.heights g.bounds g.radices g.draws p s k) in
        (ap (λ (z : ℕ). v - z) d, ap₂ (λ (t : Bool) (z : ℕ). cond t z top_word) (f ∙ ap (λ (z : ℕ). below g.radices z v) d) w)

    -- any other draws nothing
    pub step-joins : (v : ℕ) {c : ℕ} (joins : Bool) → opens on p s k ≡ false → joins ≡ joins_up on p s k || joins_down on p s k → c ≡ join_cost g.measures g.heights s k
        → (v ≡ budget_left P p s v k) × (cond joins c top_word ≡ price_in P p s v k)
    step-joins v {c} joins o e f =
        let w : cond joins c top_word ≡ cost P p s k = ap₂ (λ (t : Bool) (z : ℕ). cond t z top_word) e f ∙ sym (cost-joins g.measures g.heights g.bounds p s k o) ∙ sym (cost-on g.measures g.heights g.bounds g.radices g.draws p s k) in
        (omega (arith, draw-joins o), w ∙ sym (rw (draw-joins o, (below-splits g.radices).nothing v) refl))
