-- The one-sided walk as code follows it: what is asked of a sheet, its open labels, the strips between them, the table's rules, and
-- the walk.
use Rattle.std.specs.Prelude.{Bool, cond, not, ◌&&◌, ◌||◌, List, [], ◌∷◌, ℕ, zero, suc, ◌+◌, ◌-◌, eqb, ltb, get_or, set, replicate}
use Rattle.std.proofs.Math.Option.{Option}
use Rattle.search.specs.Radix.{below}
use Rattle.search.specs.Plan.{Rules, Rest}
use Rattle.search.specs.Walk.{Process, answer_by}
use Rattle.optimum.specs.Slots.{Slots, over, under, far_from, clear_from}

-- a site: x, y, its colour, and the set of slots (bit k: slot k) at which it may open no label
pub record Point : Type 0 where
  pub x : ℕ
  pub y : ℕ
  pub c : ℕ
  pub barred : ℕ

-- a strip: the labels above and below it (0: the sheet's top edge, k + 1: slot k, m + 1: its bottom edge) and their
-- colours (0: an edge has none, c + 1: colour c); d is the mark that the last site tied in it left
pub record Strip : Type 0 where
  pub a : ℕ
  pub ca : ℕ
  pub b : ℕ
  pub cb : ℕ
  pub d : ℕ

-- what the table and the walk ask of a sheet
pub record Instance : Type 0 where
  -- its slots; the cost that stands for none; the length of the backbone that a site at x opens
  pub slots : Slots
  pub top : ℕ
  pub lead : ℕ → ℕ
  -- a site may open a label at a slot, by its colour's bound; and by the sites left of the label's tip
  pub may : Point → ℕ → Bool
  pub tip : Point → ℕ → Bool
  -- how many marks there are; the mark that a site leaves in its strip, by its slot; by its mark a strip holds a site to the label below
  pub mark_count : ℕ
  pub turn : Point → ℕ → ℕ
  pub held : Strip → Point → Bool
  -- what a label of a colour draws from the budget; the radices of the budget's digits
  pub draw_of : ℕ → ℕ
  pub radices : List ℕ
  -- count and length as one cost
  pub word : ℕ → ℕ → ℕ

module _ (P : Instance) where
  open P use {slots, top, lead, may, tip, mark_count, turn, held, draw_of, radices, word}
  open slots use {m, height, share}

  -- ---- strips and steps

  -- the site lies in the strip
  unfoldable pub inside : Strip → Point → Bool
  inside p s = over slots p.a s.y && under slots p.b s.y

  -- the site s, which lies in the strip p, may open a label at slot k; may join the label above; the label below
  unfoldable pub opens : Strip → Point → ℕ → Bool
  opens p s k =
      ltb p.a (suc k) && ltb (suc k) p.b && ltb k m && far_from slots p.a p.ca k (suc s.c) && far_from slots p.b p.cb k (suc s.c)
      && clear_from slots p.a s.y && clear_from slots p.b s.y && may s k && tip s k && not (held p s)

  unfoldable pub joins_up : Strip → Point → ℕ → Bool
  joins_up p s k = eqb p.a (suc k) && eqb p.ca (suc s.c) && clear_from slots p.b s.y && not (held p s)

  unfoldable pub joins_down : Strip → Point → ℕ → Bool
  joins_down p s k = eqb p.b (suc k) && ltb k m && eqb p.cb (suc s.c) && clear_from slots p.a s.y

  -- what a step costs: a label more and its backbone with the site's share, or the share alone; top if it is not lawful
  unfoldable pub cost : Strip → Point → ℕ → ℕ
  cost p s k =
      cond (opens p s k) (word 1 (lead s.x + share (height k) s.y)) (cond (joins_up p s k || joins_down p s k) (word 0 (share (height k) s.y)) top)

  -- what a step draws from the budget: a label of the site's colour, if it opens one
  unfoldable pub draw : Strip → Point → ℕ → ℕ
  draw p s k = cond (opens p s k) (draw_of s.c) 0

  -- what a step leaves of a strip: a new label cuts it into an upper and a lower part ("a new one cuts the rest")
  unfoldable pub children : Strip → Point → ℕ → List Strip
  children p s k =
      cond (opens p s k)
      (record { a = p.a; ca = p.ca; b = suc k; cb = suc s.c; d = turn s k } ∷ record { a = suc k; ca = suc s.c; b = p.b; cb = p.cb; d = 0 } ∷ [])
      (record { a = p.a; ca = p.ca; b = p.b; cb = p.cb; d = turn s k } ∷ [])

  -- the table, and strips between which a budget is split: `T (rules_of P)`, `Rest (rules_of P)`; their equations are in search's Plan
  abbrev pub rules_of : Rules Strip Point
  rules_of = record { top = top; m = m; below = below radices; inside = inside; cost = cost; draw = draw; children = children }

  -- ---- open labels: m numbers, 0 or a colour + 1. Marks: m + 1 numbers, that of the strip below the place a at a

  -- the strips by rising slot, read off from slot i on; r slots are left, and a is the last label passed
  unfoldable pub strips_from : ℕ → ℕ → ℕ → ℕ → (labels marks : List ℕ) → List Strip
  strips_from zero i a ca L M = record { a = a; ca = ca; b = suc i; cb = 0; d = get_or M a 0 } ∷ []
  strips_from (suc r) i a ca L M =
      cond (eqb (get_or L i 0) 0) (strips_from r (suc i) a ca L M)
      (record { a = a; ca = ca; b = suc i; cb = get_or L i 0; d = get_or M a 0 } ∷ strips_from r (suc i) (suc i) (get_or L i 0) L M)

  unfoldable pub strips : (labels marks : List ℕ) → List Strip
  unfolding strips_from
  strips L M = strips_from m 0 0 0 L M

  -- the strip that holds the height y
  unfoldable pub hold_from : ℕ → ℕ → ℕ → ℕ → (labels marks : List ℕ) → ℕ → Strip
  hold_from zero i a ca L M y = record { a = a; ca = ca; b = suc i; cb = 0; d = get_or M a 0 }
  hold_from (suc r) i a ca L M y =
      cond (eqb (get_or L i 0) 0) (hold_from r (suc i) a ca L M y)
      (cond (ltb y (height i)) (record { a = a; ca = ca; b = suc i; cb = get_or L i 0; d = get_or M a 0 }) (hold_from r (suc i) (suc i) (get_or L i 0) L M y))

  unfoldable pub hold : (labels marks : List ℕ) → ℕ → Strip
  unfolding hold_from
  hold L M y = hold_from m 0 0 0 L M y

  -- the marks after a step
  unfoldable pub marked : (labels marks : List ℕ) → Point → ℕ → List ℕ
  marked L M s k =
      cond (eqb (get_or L k 0) 0) (set (set M (suc k) 0) (hold L M s.y).a (turn s k)) (set M (hold L M s.y).a (turn s k))

  -- ---- the walk

  -- the state: open labels, the budget left, marks. What a step costs, top if it is not lawful; and what it leads to
  abbrev pub State : Type 0
  State = List ℕ × ℕ × List ℕ

  unfoldable pub price : State → Point → ℕ → ℕ
  price x s k =
      cond (below radices (draw (hold x.0 x.2 s.y) s k) x.1) (cost (hold x.0 x.2 s.y) s k) top

  unfoldable pub next : State → Point → ℕ → State
  next x s k = (set x.0 k (suc s.c), x.1 - draw (hold x.0 x.2 s.y) s k, marked x.0 x.2 s k)

  -- the steps of the walk, the sites by rising x
  abbrev pub labels : Process State Point
  labels = record { top = top; m = m; price = price; next = next; final = λ x. 0 }

  -- the least cost of tying the sites ss, by the table
  unfoldable pub value : State → List Point → ℕ
  value x ss = Rest rules_of ss (strips x.0 x.2) x.1

  -- the slots of the sites ss, in their order, from the empty sheet; none where there are none
  unfoldable pub walked : ℕ → List Point → Option (List ℕ)
  walked v ss = answer_by labels value (replicate m 0, v, replicate (suc m) 0) ss
