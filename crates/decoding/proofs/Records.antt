-- The fields of an array's colours and sites, as lists of numbers: what they are, of a front part, at a place. Assumes nothing.
use mathlib.Core.Path.{◌≡◌, refl, ap, ap₂, sym, ◌∙◌}
use mathlib.Core.List.{List, [], ◌∷◌, ◌++◌, map, append-nil}
use Prim.Native.Nat.{ℕ, zero, suc, ◌+◌, ◌-◌, ◌<◌, ◌≤◌}
use native.Mathlib.Numerals.{add-one}
use native.Mathlib.Omega.{arith}
use lib.ListN.{length, get_or, take, drop, replicate, length-append, length-map, length-replicate, get_or-map, drop_of_length-le}
use lib.Seq.{drop-cons}
use Rattle.std.proofs.lemmas.List.{take-map, drop-replicate}
use Rattle.lists.proofs.Grown.{Grown, grown-end}
use Rattle.lists.specs.Arrays.{padded}
use Rattle.sheet.specs.Limits.{most_colours, most_sites}
use Rattle.sheet.specs.Sheet.{Site, Colour}
use Rattle.decoding.specs.Decoding.{ColourNumbers, SiteNumbers, bounds_of, site_counts_of, xs_of, ys_of, colours_of, bounds_in, site_counts_in, xs_in, ys_in, site_colours_in, no_colour_numbers, no_site_numbers, colour_numbers, site_numbers, colour_array, site_array, colours_by, sites_by}
use Rattle.decoding.proofs.Fields.{bounds-long, site-counts-long, xs-long, ys-long, colours-long}

-- a field that is zero of what stands past a list's end, of a list and so much past it
field-padded : {A : Type 0} (f : A → ℕ) (z : A) → f z ≡ 0 → (l : List A) (n : ℕ) → map f (l ++ replicate n z) ≡ map f l ++ replicate n 0
field-padded f z e [] zero = refl
field-padded f z e [] (suc n) = ap₂ (λ (x : ℕ) (l : List ℕ). x ∷ l) e (field-padded f z e [] n)
field-padded f z e (x ∷ l) n = ap (λ (r : List ℕ). f x ∷ r) (field-padded f z e l n)

-- OF THE ARRAYS
bounds-are : (ks : List Colour) → map (λ (k : ColourNumbers). k.bound) (map colour_numbers ks) ≡ bounds_of ks
unfolding bounds_of
bounds-are [] = refl
bounds-are (k ∷ ks) = ap (λ (r : List ℕ). k.bound ∷ r) (bounds-are ks)

site-counts-are : (ks : List Colour) → map (λ (k : ColourNumbers). k.sites) (map colour_numbers ks) ≡ site_counts_of ks
unfolding site_counts_of
site-counts-are [] = refl
site-counts-are (k ∷ ks) = ap (λ (r : List ℕ). k.sites ∷ r) (site-counts-are ks)

xs-are : (ss : List Site) → map (λ (s : SiteNumbers). s.x) (map site_numbers ss) ≡ xs_of ss
unfolding xs_of
xs-are [] = refl
xs-are (s ∷ ss) = ap (λ (r : List ℕ). s.x ∷ r) (xs-are ss)

ys-are : (ss : List Site) → map (λ (s : SiteNumbers). s.y) (map site_numbers ss) ≡ ys_of ss
unfolding ys_of
ys-are [] = refl
ys-are (s ∷ ss) = ap (λ (r : List ℕ). s.y ∷ r) (ys-are ss)

site-colours-are : (ss : List Site) → map (λ (s : SiteNumbers). s.colour) (map site_numbers ss) ≡ colours_of ss
unfolding colours_of
site-colours-are [] = refl
site-colours-are (s ∷ ss) = ap (λ (r : List ℕ). s.colour ∷ r) (site-colours-are ss)

-- one law for all
array-padded : {A B : Type 0} (f : A → ℕ) (z : A) → f z ≡ 0 → (g : B → A) (l : List B) (m : ℕ) (r : List ℕ) → map f (map g l) ≡ r → length r ≡ length l → map f (map g l ++ replicate (m - length l) z) ≡ padded m r
array-padded f z e g l m r q k =
    field-padded f z e (map g l) (m - length l) ∙ ap₂ (λ (a : List ℕ) (n : ℕ). a ++ replicate (m - n) 0) q (sym k)

pub bounds-array : (ks : List Colour) → bounds_in (colour_array ks) ≡ padded most_colours (bounds_of ks)
unfolding bounds_in colour_array
bounds-array ks = array-padded (λ (k : ColourNumbers). k.bound) no_colour_numbers refl colour_numbers ks most_colours (bounds_of ks) (bounds-are ks) (bounds-long ks)

pub site-counts-array : (ks : List Colour) → site_counts_in (colour_array ks) ≡ padded most_colours (site_counts_of ks)
unfolding site_counts_in colour_array
site-counts-array ks = array-padded (λ (k : ColourNumbers). k.sites) no_colour_numbers refl colour_numbers ks most_colours (site_counts_of ks) (site-counts-are ks) (site-counts-long ks)

pub xs-array : (ss : List Site) → xs_in (site_array ss) ≡ padded most_sites (xs_of ss)
unfolding xs_in site_array
xs-array ss = array-padded (λ (s : SiteNumbers). s.x) no_site_numbers refl site_numbers ss most_sites (xs_of ss) (xs-are ss) (xs-long ss)

pub ys-array : (ss : List Site) → ys_in (site_array ss) ≡ padded most_sites (ys_of ss)
unfolding ys_in site_array
ys-array ss = array-padded (λ (s : SiteNumbers). s.y) no_site_numbers refl site_numbers ss most_sites (ys_of ss) (ys-are ss) (ys-long ss)

pub site-colours-array : (ss : List Site) → site_colours_in (site_array ss) ≡ padded most_sites (colours_of ss)
unfolding site_colours_in site_array
site-colours-array ss = array-padded (λ (s : SiteNumbers). s.colour) no_site_numbers refl site_numbers ss most_sites (colours_of ss) (site-colours-are ss) (colours-long ss)

-- what was written over the front of what is zeros
array-end : {A B : Type 0} (f : B → A) (l : List B) (z : A) (m : ℕ) → map f l ++ drop (length l) (replicate m z) ≡ map f l ++ replicate (m - length l) z
array-end f l z m = ap (λ (r : List _). map f l ++ r) (drop-replicate (length l) m z)

pub colour-end : (ks : List Colour) → map colour_numbers ks ++ drop (length ks) (replicate most_colours no_colour_numbers) ≡ colour_array ks
unfolding colour_array
colour-end ks = array-end colour_numbers ks no_colour_numbers most_colours

pub site-end : (ss : List Site) → map site_numbers ss ++ drop (length ss) (replicate most_sites no_site_numbers) ≡ site_array ss
unfolding site_array
site-end ss = array-end site_numbers ss no_site_numbers most_sites

pub site-array-long : (ss : List Site) → length ss ≤ length (site_array ss)
unfolding site_array
site-array-long ss = omega (arith, length-append (map site_numbers ss) (replicate (most_sites - length ss) no_site_numbers), length-map ss site_numbers)

-- OF A FRONT PART
pub bounds-front : (n : ℕ) (ks : List ColourNumbers) → bounds_in (take n ks) ≡ take n (bounds_in ks)
unfolding bounds_in
bounds-front n ks = sym (take-map (λ (k : ColourNumbers). k.bound) n ks)

pub site-counts-front : (n : ℕ) (ks : List ColourNumbers) → site_counts_in (take n ks) ≡ take n (site_counts_in ks)
unfolding site_counts_in
site-counts-front n ks = sym (take-map (λ (k : ColourNumbers). k.sites) n ks)

-- AT A PLACE
pub bounds-place : (ks : List ColourNumbers) (i : ℕ) → get_or (bounds_in ks) i 0 ≡ (get_or ks i no_colour_numbers).bound
unfolding bounds_in
bounds-place ks i = get_or-map (λ (k : ColourNumbers). k.bound) ks i no_colour_numbers

pub site-counts-place : (ks : List ColourNumbers) (i : ℕ) → get_or (site_counts_in ks) i 0 ≡ (get_or ks i no_colour_numbers).sites
unfolding site_counts_in
site-counts-place ks i = get_or-map (λ (k : ColourNumbers). k.sites) ks i no_colour_numbers

pub xs-place : (ss : List SiteNumbers) (i : ℕ) → get_or (xs_in ss) i 0 ≡ (get_or ss i no_site_numbers).x
unfolding xs_in
xs-place ss i = get_or-map (λ (s : SiteNumbers). s.x) ss i no_site_numbers

pub ys-place : (ss : List SiteNumbers) (i : ℕ) → get_or (ys_in ss) i 0 ≡ (get_or ss i no_site_numbers).y
unfolding ys_in
ys-place ss i = get_or-map (λ (s : SiteNumbers). s.y) ss i no_site_numbers

pub site-colours-place : (ss : List SiteNumbers) (i : ℕ) → get_or (site_colours_in ss) i 0 ≡ (get_or ss i no_site_numbers).colour
unfolding site_colours_in
site-colours-place ss i = get_or-map (λ (s : SiteNumbers). s.colour) ss i no_site_numbers

-- ONE NUMBER OF EACH, put into an array of zeros place by place
pub field-next : {A : Type 0} (of : A → ℕ) (d : A) (xs : List A) (i v : ℕ) → i < length xs → v ≡ of (get_or xs i d) → map of (drop i xs) ≡ v ∷ map of (drop (i + 1) xs)
field-next of d xs i v h e = rw (e, add-one i, drop-cons xs i d h) refl

pub fields-end : {A : Type 0} (of : A → ℕ) (xs : List A) (out : List ℕ) (i n : ℕ) → length xs ≤ i → length xs ≡ n → Grown (replicate n 0) out (map of xs) (map of (drop i xs)) i → out ≡ map of xs
fields-end of xs out i n h e g =
    grown-end _ out _ _ i (ap (map of) (drop_of_length-le xs h)) g
    ∙ ap (λ (r : List ℕ). map of xs ++ r) (drop_of_length-le (replicate n 0) (omega (arith, length-map xs of, length-replicate {A = ℕ} n 0)))
    ∙ append-nil (map of xs)

-- READ BACK
pub colours-back : (ks : List Colour) → colours_by (map colour_numbers ks) ≡ ks
unfolding colours_by
colours-back [] = refl
colours-back (k ∷ ks) = ap (λ (l : List Colour). k ∷ l) (colours-back ks)

pub sites-back : (ss : List Site) → sites_by (map site_numbers ss) ≡ ss
unfolding sites_by
sites-back [] = refl
sites-back (s ∷ ss) = ap (λ (l : List Site). s ∷ l) (sites-back ss)

front : {A B : Type 0} (f : A → B) (l : List A) (r : List B) → take (length l) (map f l ++ r) ≡ map f l
front f [] r = refl
front f (x ∷ l) r = ap (λ (z : List _). f x ∷ z) (front f l r)

pub colour-front : (ks : List Colour) → take (length ks) (colour_array ks) ≡ map colour_numbers ks
unfolding colour_array
colour-front ks = front colour_numbers ks (replicate (most_colours - length ks) no_colour_numbers)

pub site-front : (ss : List Site) → take (length ss) (site_array ss) ≡ map site_numbers ss
unfolding site_array
site-front ss = front site_numbers ss (replicate (most_sites - length ss) no_site_numbers)

-- what stands past the colours of an array; colours with so much past them
pub colour-rest : (ks : List Colour) → drop (length ks) (colour_array ks) ≡ replicate (most_colours - length ks) no_colour_numbers
unfolding colour_array
colour-rest ks = rest ks (replicate (most_colours - length ks) no_colour_numbers)
  where
    rest : (l : List Colour) (r : List ColourNumbers) → drop (length l) (map colour_numbers l ++ r) ≡ r
    rest [] r = refl
    rest (x ∷ l) r = rest l r

pub colour-join : (ks : List Colour) (n : ℕ) → n ≡ length ks → map colour_numbers ks ++ replicate (most_colours - n) no_colour_numbers ≡ colour_array ks
unfolding colour_array
colour-join ks n e = ap (λ (z : ℕ). map colour_numbers ks ++ replicate (most_colours - z) no_colour_numbers) e
