-- What is promised of a page, an end in itself; and of one call, for the contract of crate cabi. Assumes nothing.
use mathlib.Core.List.{List}
use Prim.Native.Nat.{ℕ}
use Rattle.faults.specs.declared.written.Written.{Written}
use Rattle.page.specs.Page.{page_in, page_size}
use Rattle.page.specs.Promise.{PageOf}
use Rattle.page.proofs.Promise.{stored-long, pages-add-up, colours-shared}
use Rattle.demands.specs.Demands.{WasPaged, ServedByPage, PagePromised}
use Rattle.demands.proofs.Tools.{served-by-tool}

pub served-by-page : (ws o : List ℕ) (r : Written) (o' : List ℕ) → WasPaged ws o r o' → ServedByPage ws o r o'
served-by-page ws o r o' m = served-by-tool ws (page_size ws) (page_in ws) (PageOf ws) (λ z. (stored-long ws z, pages-add-up ws z)) o r o' m.0 m.1

pub page-promised : PagePromised
page-promised = record { served = served-by-page; add-up = pages-add-up; colours = colours-shared }
