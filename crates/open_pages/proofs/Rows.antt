-- Pages in a row, opened one after the other.
use Rattle.std.proofs.Common.{◌≡◌, ℕ, suc, ◌+◌, ◌*◌, ◌^◌, ◌<◌, ◌≤◌, List, ◌∷◌, ◌++◌, sym, arith}
use Rattle.units.specs.declared.direction.Direction.{Direction}
use Rattle.units.specs.declared.direction.Direction.TheVariants.{Both, ToCard, FromCard}
use Rattle.units.specs.Directions.{rights_of}
use Rattle.entry.specs.Words.{word_of}
use Rattle.tree.specs.declared.place.Table.{Table}
use Rattle.tree.specs.Places.{Stay}
use Rattle.tree.specs.Layout.{put, put_span, Fits}
use Rattle.tree.specs.Counts.{free_count, lacking, lacks, pages_from}
use Rattle.tree.proofs.Rows.{put_span_none, put_span_more, fits_same, lacks_then, lacking_rise}
use Rattle.open_pages.specs.Opening.{Fitted}

-- the word of a page is present
pub word_some : (d : Direction) (n : ℕ) → 0 < word_of (rights_of d) n
word_some Both n = omega arith
word_some ToCard n = omega arith
word_some FromCard n = omega arith

-- of `count` pages in a row, n are open
pub record Opened (ts ts' : List Table) (ws ws' : List ℕ) (first count n : ℕ) (w : ℕ → ℕ) : Type 0 where
  pub fits : (C T : ℕ) (leaf : ℕ → ℕ) (qs : List ℕ) → Fits C T ts leaf qs ws → first + count ≤ C * 2 ^ 36 → Fits C T ts' (put_span leaf first n w) (pages_from first n ++ qs) ws'
  pub stay : Stay ts ts'
  pub taken : free_count ts' + lacking ts first n ≡ free_count ts

pub opened_none : (ts : List Table) (ws : List ℕ) (first count : ℕ) (w : ℕ → ℕ) → Opened ts ts ws ws first count 0 w
opened_none ts ws first count w = record {
  fits = λ C T leaf qs fits _. fits_same C T ts leaf (put_span leaf first 0 w) qs ws (put_span_none leaf first w) fits;
  stay = λ t l k h. h;
  taken = omega arith;
}

module _ (ts ts' : List Table) (ws ws' : List ℕ) (first count n : ℕ) (w : ℕ → ℕ) (fitted : Fitted ts ws (first + count)) (opened : Opened ts ts' ws ws' first count n w) (more : n < count) where
  pub still_fitted : Fitted ts' ws' (first + n + 1)
  still_fitted = let b = fitted.before in record {
    cards = fitted.cards;
    tables = fitted.tables;
    leaf = put_span fitted.leaf first n w;
    pages = pages_from first n ++ fitted.pages;
    fits = opened.fits fitted.cards fitted.tables fitted.leaf fitted.pages fitted.fits fitted.before;
    before = omega arith;
  }

  lacks_now : lacks ts' (first + n) + lacking ts first n ≡ lacking ts first (suc n)
  lacks_now =
      let e = lacks_then fitted.cards fitted.tables ts ts' fitted.leaf (put_span fitted.leaf first n w) fitted.pages ws ws' first n fitted.fits (opened.fits fitted.cards fitted.tables fitted.leaf fitted.pages fitted.fits fitted.before) in
      omega arith

  pub still_room : lacking ts first count ≤ free_count ts → lacks ts' (first + n) ≤ free_count ts'
  still_room room = let a = lacks_now in let b = lacking_rise ts first (suc n) count (omega arith) in let c = opened.taken in omega arith

  -- and one more
  pub opened_more : (ts₁ : List Table) (ws₁ : List ℕ)
      → ((C T : ℕ) (leaf : ℕ → ℕ) (qs : List ℕ) → Fits C T ts' leaf qs ws' → first + n < C * 2 ^ 36 → Fits C T ts₁ (put leaf (first + n) (w n)) ((first + n) ∷ qs) ws₁)
      → Stay ts' ts₁ → free_count ts₁ + lacks ts' (first + n) ≡ free_count ts' → Opened ts ts₁ ws ws₁ first count (suc n) w
  opened_more ts₁ ws₁ step stay taken = record {
    fits = λ C T leaf qs fits b. fits_same C T ts₁ (put (put_span leaf first n w) (first + n) (w n)) (put_span leaf first (suc n) w) (pages_from first (suc n) ++ qs) ws₁ (λ x. sym (put_span_more leaf first n w x))
        (step C T (put_span leaf first n w) (pages_from first n ++ qs) (opened.fits C T leaf qs fits b) (omega arith));
    stay = λ t l k h. stay t l k (opened.stay t l k h);
    taken = let a = lacks_now in let c = opened.taken in omega arith;
  }
