-- THE ARRAYS OF A SHEET as one value, which a contract names once, and what the functions that lay a sheet out ask of them. Definitions.
use Rattle.std.specs.Prelude.{◌≡◌, true, List, [], ℕ, ◌-◌, ◌<◌, ◌≤◌, length, get_or}
use Rattle.sheet.specs.Limits.{most_slots, most_colours, most_sites, most_budgets, number_top}
use Rattle.search.specs.Radix.{below}
use Rattle.optimum.specs.Strips.{Point, Instance}
use Rattle.arrays.specs.declared.Measures.{Measures}
use Rattle.arrays.specs.Arrays.{instance_by, point_by, points_by}

-- the measures; the slots' heights; the colours' bounds, radices and draws; the sites by rising rank, and their places in the sheet;
-- what may be taken from each budget, listed
pub record Given : Type 0 where
  pub measures : Measures
  pub heights : List ℕ
  pub bounds : List ℕ
  pub radices : List ℕ
  pub draws : List ℕ
  pub xs : List ℕ
  pub ys : List ℕ
  pub colours : List ℕ
  pub order : List ℕ
  pub parts : List ℕ
  pub counts : List ℕ

-- A contract ties it: `given q (now heights) .. ≡ g`. What a function is not given is an empty list there.
abbrev pub given : Measures → (heights bounds radices draws xs ys colours order parts counts : List ℕ) → Given
given q hs bs rs ds xs ys cs os ps ns =
    record {
      measures = q;
      heights = hs;
      bounds = bs;
      radices = rs;
      draws = ds;
      xs = xs;
      ys = ys;
      colours = cs;
      order = os;
      parts = ps;
      counts = ns;
    }

-- where a function is given heights alone; bounds besides; radices and draws besides
abbrev pub on_slots : Measures → (heights : List ℕ) → Given
on_slots q hs = given q hs [] [] [] [] [] [] [] [] []

abbrev pub on_strip : Measures → (heights bounds : List ℕ) → Given
on_strip q hs bs = given q hs bs [] [] [] [] [] [] [] []

abbrev pub on_step : Measures → (heights bounds radices draws : List ℕ) → Given
on_step q hs bs rs ds = given q hs bs rs ds [] [] [] [] [] []

-- the model's instance, and the sites as points: that of rank j, and all
abbrev pub instance_of : Given → Instance
instance_of g = instance_by g.measures g.heights g.bounds g.radices g.draws

abbrev pub point_in : Given → (j : ℕ) → Point
point_in g j = point_by g.measures g.heights g.xs g.ys g.colours j

abbrev pub points_of : Given → List Point
points_of g = points_by g.measures g.heights g.xs g.ys g.colours

-- ---- what is asked of them

-- of a site
pub record SiteIn (q : Measures) (s : Point) : Type 0 where
  pub y_low : s.y < number_top
  pub colour_low : s.c < q.colours

-- of all: they are an accepted sheet's. It holds as well with empty lists in place of some: no length is asked for but the sites'.
pub record OfSheet (g : Given) : Type 0 where
  pub few_slots : length g.heights ≤ most_slots
  pub few_colours : g.measures.colours ≤ most_colours
  pub few_sites : length g.xs ≤ most_sites
  pub few_budgets : g.measures.budgets ≤ most_budgets
  pub some_budget : 0 < g.measures.budgets
  pub narrow : g.measures.head.width < number_top
  pub charge_low : g.measures.head.charge < number_top
  pub height_low : (k : ℕ) → get_or g.heights k 0 < number_top
  pub rising : (j k : ℕ) → j < k → k < length g.heights → get_or g.heights j 0 < get_or g.heights k 0
  -- no radix is 0, and every budget may be taken from the last
  pub divides : (k : ℕ) → k < length g.radices → 0 < get_or g.radices k 0
  pub full : (v : ℕ) → v < g.measures.budgets → below g.radices v (g.measures.budgets - 1) ≡ true
  pub ys_long : length g.ys ≡ length g.xs
  pub colours_long : length g.colours ≡ length g.xs
  pub site_in : (i : ℕ) → i < length g.xs → SiteIn g.measures (point_in g i)
  pub order_low : (i : ℕ) → i < length g.order → get_or g.order i 0 < length g.xs

-- every colour has its bound: asked where bounds are read
abbrev pub Bounded : Given → Type 0
Bounded g = length g.bounds ≡ g.measures.colours

-- every site has its place: asked where the walk writes
abbrev pub Ranked : Given → Type 0
Ranked g = length g.order ≡ length g.xs
