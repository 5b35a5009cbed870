-- What a stored sheet is opened to. Assumes nothing: these are definitions.
use Rattle.decoding.specs.Decoding.{site_colours_in, xs_in, ys_in}
use Rattle.std.specs.Prelude.{◌≡◌, Bool, ◌&&◌, not, cond, List, ℕ, ◌+◌, eqb, length, get_or}
use Rattle.sheet.specs.Sheet.{all, kind_of, sheet_in, sheet_fault}
use Rattle.labelling.specs.Layout.{ties_at, layout_body, is_layout}
use Rattle.forms.specs.Forms.{tie_fits}
use Rattle.decoding.specs.declared.Numbers.{Numbers}
use Rattle.words.specs.declared.tied.Head.{Head}

-- `is_layout` by m and n alone
abbrev pub layout_fits : (slots sites : ℕ) → (words : List ℕ) → Bool
layout_fits m n ws = eqb (length ws) (n + ties_at) && eqb (kind_of (get_or ws 0 0)) 8 && all (tie_fits m) (layout_body ws)

-- `judge_fault` by the words before the first of kind 8 and those from it on
abbrev pub parts_fault : (sheet layout : List ℕ) → ℕ
parts_fault ss ls = cond (not (eqb (sheet_fault ss) 0)) (sheet_fault ss) (cond (is_layout (sheet_in ss) ls) 0 11)

-- THE SITES of a sheet's numbers with the ties of a layout's words
pub record SitesRead (d : Numbers) (layout : List ℕ) (h : Head) (hs us vs cs ts : List ℕ) : Type 0 where
  pub head : h ≡ d.head
  pub heights : hs ≡ d.heights
  pub xs : us ≡ xs_in d.site_list
  pub ys : vs ≡ ys_in d.site_list
  pub colours : cs ≡ site_colours_in d.site_list
  pub ties : ts ≡ layout_body layout
