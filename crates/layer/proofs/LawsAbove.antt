-- A layer keeps the laws at every list that is possible above, since the mapper below does.
use Rattle.std.proofs.Common.{◌≡◌, ℕ, ◌/◌, ◌%◌, ◌≤◌, Bool, true, false, ◌&&◌, ◌||◌, ◌⊎◌, List, [], ◌∷◌, sym, refl, ap, ◌∙◌, inl, inr, arith}
use Rattle.std.proofs.lemmas.Bool.{cases_eq, lt-ltb}
use Rattle.std.proofs.lemmas.Bool.Decides.{nat_tests}
use Rattle.units.specs.declared.mapping.Mapping.{Mapping}
use Rattle.meaning.specs.Mappings.{In, Pairwise, Whole, Holds, Pages, Lands}
use Rattle.meaning.specs.Worlds.{Setup, Kind}
use Rattle.meaning.specs.Laws.{DisjointPages, Landings, Bounds, Bounded}
use Rattle.meaning.proofs.Facts.{within_true, within_from}
use Rattle.layer.specs.Lowering.{down, lowered}
use Rattle.layer.specs.Pools.{below_setup, pool_first, pool_count, has_pool, in_pool}
use Rattle.layer.specs.Choosing.{layer_reserved}
use Rattle.layer.specs.Possible.{Fitting, Over}
use Rattle.layer.specs.Lawful.{Lawful}
use Rattle.layer.proofs.Lowered.{in_lowered, pairs_above, pages_down}

pub whole_or_not : (m : Mapping) → Whole m ⊎ (Whole m → ⊥)
whole_or_not m = elim (cases_eq (m.buffer.address % 4096) 0) [
  | inl e ↦ elim (cases_eq (m.buffer.length % 4096) 0) [
    | inl f ↦ inl (record { starts = e; ends = f })
    | inr f ↦ inr (λ w. f w.ends)
  ]
  | inr e ↦ inr (λ w. e w.starts)
]

-- the frames of a whole buffer hold nothing else
pub whole_holds : (m : Mapping) (q : ℕ) → Whole m → m.landing ≡ m.buffer.address → Lands m q → Holds m q
whole_holds m q w own l =
    let s = w.starts in
    let e = w.ends in
    let from = l.from in
    let to = l.to in record { from = omega arith; to = omega arith }

-- pairs of a list, each with what is known of its two members
pub pair_map_in : (R Q : Mapping → Mapping → Type 0) (o : List Mapping) → ((m n : Mapping) → In m o → In n o → R m n → Q m n) → Pairwise R o → Pairwise Q o
pair_map_in R Q [] f p = tt
pair_map_in R Q (k ∷ o) f p = ((λ n i. f k n (inl refl) (inr i) (p.0 n i)), pair_map_in R Q o (λ m n i j. f m n (inr i) (inr j)) p.1)

-- Reserved frames -----------------------------------------------------------------------------------------

module _ (below : Setup → ℕ → Bool) (S : Setup) (some : 1 ≤ pool_count S) where
  has : has_pool S ≡ true
  has = lt-ltb 0 (pool_count S) some

  pub pool_reserved : (f : ℕ) → in_pool S f ≡ true → layer_reserved below S f ≡ true
  pool_reserved f e = let h = has in grind (arith, nat_tests)

  pub reserved_as : (f : ℕ) → layer_reserved below S f ≡ (in_pool S f || below (below_setup S) f)
  reserved_as f = ap (λ (z : Bool). z && (in_pool S f || below (below_setup S) f)) has

pub or_false : (a b : Bool) → (a || b) ≡ false → (a ≡ false) × (b ≡ false)
or_false true b e = absurd (cc)
or_false false b e = (refl, e)

pub or_true : (a b : Bool) → (a || b) ≡ true → (a ≡ true) ⊎ (b ≡ true)
or_true true b e = inl refl
or_true false b e = inr e

pub both : (b : Bool) → b ≡ true → b ≡ false → ⊥
both b s t = cc

-- The laws ------------------------------------------------------------------------------------------------

module _ (K : Kind) (P : Setup → List Mapping → Type 0) (law : Lawful K P) (S : Setup) (o : List Mapping) (h : Over K P S o) where
  abbrev reserved : ℕ → Bool
  reserved = layer_reserved K.reserved S

  abbrev fitting : (m : Mapping) → In m o → Fitting S.frames (K.reserved (below_setup S)) (pool_first S) (pool_count S) m
  fitting m i = h.standing.each m i

  clean_here : (m : Mapping) → In m o → (b : ℕ) → Holds m b → reserved (b / 4096) ≡ false
  clean_here m i b g = reserved_as K.reserved S h.standing.some (b / 4096) ∙ (fitting m i).clean b g

  -- where a buffer that is not whole lands
  pool_lands : (m : Mapping) → In m o → (Whole m → ⊥) → (q : ℕ) → Lands m q → in_pool S (q / 4096) ≡ true
  pool_lands m i n q l =
      let p = (fitting m i).pooled n in
      let low = p.0 in
      let high = p.1 in
      let from = l.from in
      let to = l.to in within_from (pool_first S) (pool_count S) (q / 4096) (omega arith) (omega arith)

  pub bounced_over : (m : Mapping) → In m o → (Whole m → ⊥) → (q : ℕ) → Lands m q → reserved (q / 4096) ≡ true
  bounced_over m i n q l = pool_reserved K.reserved S h.standing.some (q / 4096) (pool_lands m i n q l)

  -- a reserved frame of a landing is the pool's
  in_pool_if : (m : Mapping) → In m o → (q : ℕ) → Lands m q → reserved (q / 4096) ≡ true → in_pool S (q / 4096) ≡ true
  in_pool_if m i q l r = elim (whole_or_not m) [
    | inl w ↦ absurd (both (reserved (q / 4096)) r (clean_here m i q (whole_holds m q w ((fitting m i).own w) l)))
    | inr n ↦ pool_lands m i n q l
  ]

  pub disjoint_over : DisjointPages S o
  disjoint_over =
      let d = law.disjoint_pages (below_setup S) (lowered o) h.below in
      record {
        offset_device = λ m i. (fitting m i).offset_device;
        offset_landing = λ m i. (fitting m i).offset_landing;
        pages_given = λ m i p g. d.pages_given (down m) (in_lowered m o i) p (pages_down m p g);
        pages_apart = pairs_above (λ m n. m.card.0 ≡ n.card.0 → (p : ℕ) → Pages m p → Pages n p → ⊥) (λ m n. m.card.0 ≡ n.card.0 → (p : ℕ) → Pages m p → Pages n p → ⊥) o
            (λ m n r c p a b. r c p (pages_down m p a) (pages_down n p b)) d.pages_apart;
      }

  pub landing_over : Landings reserved o
  landing_over = record {
    lands = λ m i other. (
      (λ w. other ((fitting m i).own w)),
      λ q l. elim (whole_or_not m) [
        | inl w ↦ absurd (other ((fitting m i).own w))
        | inr n ↦ bounced_over m i n q l
      ],
    );
    landings_apart = pair_map_in (λ m n. (q : ℕ) → Lands m q → Lands n q → in_pool S (q / 4096) ≡ true → ⊥) (λ m n. (q : ℕ) → Lands m q → Lands n q → reserved (q / 4096) ≡ true → ⊥) o
        (λ m n i j r q a b e. r q a b (in_pool_if m i q a e)) h.standing.unshared;
  }

  bounded_over : (m : Mapping) → In m o → Bounded S reserved m
  bounded_over m i =
      let f = fitting m i in
      record {
        card = ((law.bounds (below_setup S) (lowered o) h.below).each (down m) (in_lowered m o i)).card;
        some = f.some;
        short = f.short;
        inside = f.inside;
        landing = elim (whole_or_not m) [
          | inl w ↦ (let own = f.own w in let inside = f.inside in let s = w.starts in let e = w.ends in omega arith)
          | inr n ↦ (let p = f.pooled n in let high = p.1 in let pool = h.standing.inside in omega arith)
        ];
        clean = clean_here m i;
      }

  pub bounds_over : Bounds S reserved o
  bounds_over =
      let b = law.bounds (below_setup S) (lowered o) h.below in
      record {
        cards = b.cards;
        lasts = b.lasts;
        frames = b.frames;
        reserves = λ f e. elim (or_true (in_pool S f) (K.reserved (below_setup S) f) (sym (reserved_as K.reserved S h.standing.some f) ∙ e)) [
          | inl t ↦ (let w = (within_true (pool_first S) (pool_count S) f t).1 in let pool = h.standing.inside in omega arith)
          | inr t ↦ b.reserves f t
        ];
        each = bounded_over;
      }
