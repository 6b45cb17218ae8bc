-- A table is hung, and a page's word written.
use Rattle.std.proofs.Common.{◌≡◌, ℕ, suc, ◌+◌, ◌*◌, ◌/◌, ◌%◌, ◌<◌, ◌≤◌, inl, inr, cond, List, length, set, Some, None, Option, is_some, ◌≢◌, sym, refl, ap, ◌∙◌, arith, subst}
use Rattle.std.proofs.lemmas.Bool.{cases_eq, both_ways}
use Rattle.entry.specs.Words.{both, word_of}
use Rattle.walk.specs.Indices.{prefix, index}
use Rattle.tree.specs.declared.place.Table.{Table}
use Rattle.tree.specs.declared.place.Table.TheVariants.{Free}
use Rattle.tree.specs.Places.{table_at, place, table_for, Stay}
use Rattle.tree.specs.Layout.{Laid, put}
use Rattle.tree.specs.Counts.{free_count, lacks_at}
use Rattle.tree.proofs.Standing.{found_stands, used_within, free_within}
use Rattle.tree.proofs.Changing.{part_below, Takes, taken_directory, taken_found, taken_other, taken_stays}
use Rattle.tree.proofs.Writing.{laid_taken, laid_page, put_other, word_below}
use Rattle.tree.proofs.Looking.{free_at, count_taken}
use Rattle.open_pages.specs.Opening.{Hung, Hangs, Made}

-- table u is free and no table stands at level l for prefix k, below table a
pub record Fresh (ts : List Table) (u l k a : ℕ) : Type 0 where
  pub free : table_at ts u ≡ Free
  pub low : 1 ≤ l
  pub high : l ≤ 3
  pub vacant : table_for ts l k ≡ None
  pub above : table_for ts (suc l) (k / 512) ≡ Some a

module _ (C T : ℕ) (ts : List Table) (leaf : ℕ → ℕ) (ws : List ℕ) (hung : Hung C T ts leaf ws) where
  -- a page is not open where its table of level 1 is missing
  pub not_open : (k i : ℕ) → i < 512 → table_for ts 1 k ≡ None → leaf (k * 512 + i) ≡ 0
  not_open k i b e = elim (cases_eq (leaf (k * 512 + i)) 0) [
    | inl z ↦ z
    | inr n ↦ (
        let s = hung.served (k * 512 + i) n in
        let f : table_for ts 1 (prefix 1 (k * 512 + i)) ≡ None = ap (table_for ts 1) (part_below k i b) ∙ e in
        absurd (both_ways (is_some (table_for ts 1 (prefix 1 (k * 512 + i)))) (ap is_some f) s))
  ]

  pub may_take : (u l k a : ℕ) → Fresh ts u l k a → Takes C T ts u l k
  may_take u l k a f = let b = f.high in record {
    directory = hung.directory;
    free = f.free;
    low = f.low;
    high = omega arith;
    vacant = f.vacant;
    above = (a, (found_stands ts (suc l) (k / 512) a f.above).1);
  }

  pub hung_taken : (u l k a : ℕ) → Fresh ts u l k a → Hung C T (set ts u (place l k)) leaf (set ws (a * 512 + k % 512) (word_of both u))
  hung_taken u l k a f =
      let takes = may_take u l k a f in
      record {
        directory = taken_directory C T ts u l k takes;
        laid = laid_taken C T ts leaf ws u l k a takes hung.laid (found_stands ts (suc l) (k / 512) a f.above).1 (λ one i b. not_open k i b (ap (λ (z : ℕ). table_for ts z k) (sym one) ∙ f.vacant));
        served = λ q n. elim (cases_eq 1 l) [
          | inl e ↦ elim (cases_eq (prefix 1 q) k) [
            | inl g ↦ ap is_some (ap (λ (z : ℕ). table_for (set ts u (place l k)) z (prefix 1 q)) e ∙ ap (table_for (set ts u (place l k)) l) g ∙ taken_found C T ts u l k takes)
            | inr g ↦ ap is_some (taken_other C T ts u l k takes 1 (prefix 1 q) (λ _ h. g h)) ∙ hung.served q n
          ]
          | inr e ↦ ap is_some (taken_other C T ts u l k takes 1 (prefix 1 q) (λ g _. e g)) ∙ hung.served q n
        ];
      }

  -- the page's word is written into its table of level 1
  pub hung_page : (q t w : ℕ) → table_for ts 1 (prefix 1 q) ≡ Some t → Hung C T ts (put leaf q w) (set ws (t * 512 + index 0 q) w)
  hung_page q t w e =
      let s = (found_stands ts 1 (prefix 1 q) t e).1 in
      let whole : prefix 1 q * 512 + index 0 q ≡ q = omega arith in
      record {
        directory = hung.directory;
        laid = subst (λ (z : ℕ). Laid T ts (put leaf z w) (set ws (t * 512 + index 0 q) w)) whole (laid_page C T ts leaf ws t (prefix 1 q) (index 0 q) w hung.directory hung.laid s (omega arith));
        served = λ x n. elim (cases_eq x q) [
          | inl g ↦ ap (λ (z : ℕ). is_some (table_for ts 1 (prefix 1 z))) g ∙ ap is_some e
          | inr g ↦ hung.served x (λ z. n (put_other leaf q w x g ∙ z))
        ];
      }

-- Words that stand ---------------------------------------------------------------------------------------

-- the words of a table that stands are some of the words
pub record Standing (ts : List Table) (ws : List ℕ) (t : ℕ) : Type 0 where
  pub few : t < 64
  pub words : (i : ℕ) → i < 512 → t * 512 + i < length ws

pub words_stand : (ts : List Table) (ws : List ℕ) (l k t : ℕ) → Hangs ts ws → table_for ts l k ≡ Some t → Standing ts ws t
words_stand ts ws l k t h e =
    let s = (found_stands ts l k t e).1 in
    let b = used_within h.cards h.tables ts h.hung.directory t l k s in
    let few = h.hung.directory.few in
    record { few = omega arith; words = λ i i_b. word_below h.cards h.tables ts h.leaf ws t l k i h.hung.directory h.hung.laid s i_b }

-- A table is taken --------------------------------------------------------------------------------------

module _ (ts : List Table) (ws : List ℕ) (u l k a : ℕ) (h : Hangs ts ws) (f : Fresh ts u l k a) where
  pub hangs_taken : Hangs (set ts u (place l k)) (set ws (a * 512 + k % 512) (word_of both u))
  hangs_taken = record { cards = h.cards; tables = h.tables; leaf = h.leaf; hung = hung_taken h.cards h.tables ts h.leaf ws h.hung u l k a f }

  pub made_taken : Made ts (set ts u (place l k)) l k u
  made_taken =
      let takes = may_take h.cards h.tables ts h.leaf ws h.hung u l k a f in
      record { found = taken_found h.cards h.tables ts u l k takes; others = taken_other h.cards h.tables ts u l k takes }

  pub stay_taken : Stay ts (set ts u (place l k))
  stay_taken = taken_stays h.cards h.tables ts u l k (may_take h.cards h.tables ts h.leaf ws h.hung u l k a f)

  pub fresh_few : u < 64
  fresh_few = let b = free_within h.cards h.tables ts h.hung.directory u f.free in let few = h.hung.directory.few in omega arith

-- Counting -----------------------------------------------------------------------------------------------

pub lacks_one : (ts : List Table) (l q : ℕ) → table_for ts l (prefix l q) ≡ None → lacks_at ts l q ≡ 1
lacks_one ts l q e = ap (λ (z : Option ℕ). cond (is_some z) 0 1) e

-- a page that lacks a table finds one free
pub some_free : (ts : List Table) (l q : ℕ) → table_for ts l (prefix l q) ≡ None → lacks_at ts l q ≤ free_count ts → ((t : ℕ) → table_at ts t ≢ Free) → ⊥
some_free ts l q e room n = let one = lacks_one ts l q e in let f = free_at ts (omega arith) in n f.0 f.1

pub one_taken : (ts : List Table) (u l q a : ℕ) → Fresh ts u l (prefix l q) a → free_count (set ts u (place l (prefix l q))) + lacks_at ts l q ≡ free_count ts
one_taken ts u l q a f = let one = lacks_one ts l q f.vacant in let c = count_taken ts u (place l (prefix l q)) f.free refl in omega arith
