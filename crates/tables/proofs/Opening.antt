-- What map opens: its pages fit the tables, which have room for them.
use Rattle.std.proofs.Common.{◌≡◌, ℕ, ◌+◌, ◌*◌, ◌/◌, ◌%◌, ◌^◌, ◌<◌, ◌≤◌, true, List, length, Ok, ◌++◌, sym, ap, ◌∙◌, subst, arith}
use Rattle.units.specs.declared.direction.Direction.{Direction}
use Rattle.units.specs.declared.mapping.Mapping.{Mapping}
use Rattle.units.specs.declared.mapping.Placement.{Placement}
use Rattle.units.specs.declared.mapping.Request.{Request}
use Rattle.units.specs.Directions.{rights_of}
use Rattle.meaning.specs.Mappings.{In, key, first_page, first_frame, page_count, insert}
use Rattle.meaning.specs.Checks.{Verdict, admitted}
use Rattle.meaning.specs.Effects.{new_mapping}
use Rattle.meaning.proofs.Lists.{insert_in}
use Rattle.meaning.proofs.Verdicts.{Admitted}
use Rattle.mapper.specs.Called.{here}
use Rattle.pages.specs.Lawful.{lawful}
use Rattle.pages.proofs.Calls.{asked}
use Rattle.entry.specs.Words.{word_of}
use Rattle.tree.specs.declared.place.Table.{Table}
use Rattle.tree.specs.Places.{page_of}
use Rattle.tree.specs.Layout.{put_span, Fits}
use Rattle.tree.specs.Counts.{free_count, lacking, pages_from}
use Rattle.open_pages.specs.Opening.{Fitted}
use Rattle.table_meaning.specs.Choosing.{table_choice}
use Rattle.table_meaning.specs.Opened.{leaf_of, pages_of}
use Rattle.table_meaning.proofs.Choice.{Accepted, accepted_choice, choice_lawful, choice_new}
use Rattle.table_meaning.proofs.Leaves.{Short, short_of}
use Rattle.table_meaning.proofs.Fitting.{fits_insert}
use Rattle.table_meaning.proofs.Room.{room_enough}
use Rattle.tables.specs.contracts.laws.TablesMeaning.TheImpl.{ghosts as means}
use Rattle.tables.specs.declared.tables.Tables.{Tables}
use Rattle.tables.proofs.Calls.{setup_in, open_in}

-- the first page's number, as the code has it
pub first_of : (m : Mapping) (page q : ℕ) → q ≡ page_of m.card.0 page → page ≡ m.device.0 / 4096 → q ≡ key m
first_of m page q e f = e ∙ ap (page_of m.card.0) f

module _ (w : Tables) (x : List ℕ) (r : Request) (p : Placement) (e : (k : Verdict) → admitted (here means w x) r k ≡ k) (f : table_choice (setup_in w) (open_in w) r ≡ Ok p) where
  abbrev pub new : Mapping
  new = new_mapping r p

  admit : Admitted (here means w x) r
  admit = asked means w x r e

  taken : Accepted (setup_in w) (open_in w) r p
  taken = accepted_choice (setup_in w) (open_in w) r p f

  pub still_lawful : lawful (setup_in w) (insert new (open_in w)) ≡ true
  still_lawful = choice_lawful (setup_in w) (length x) (open_in w) r p admit f w.possible.0.1

  pub new_key : (k : Mapping) → In k (open_in w) → key k ≡ key new → ⊥
  new_key k i = choice_new (setup_in w) (open_in w) new w.possible.0.0 still_lawful k i

  pub new_short : Short new
  new_short = short_of (setup_in w) (insert new (open_in w)) w.possible.0.0 still_lawful new (insert_in new (open_in w))

  pub new_page : first_page new < 2 ^ 36
  new_page =
      let some = admit.some in
      let pages : 0 < page_count new = omega arith in
      let short = new_short in omega arith

  key_is : key new ≡ page_of r.card.0 taken.page
  key_is =
      let place : p.device.0 ≡ taken.page * 4096 + r.buffer.address % 4096 = ap (λ (z : Placement). z.device.0) taken.place in omega arith

  new_room : lacking w.tables (key new) (page_count new) ≤ free_count w.tables
  new_room = subst (λ (z : ℕ). lacking w.tables z (page_count new) ≤ free_count w.tables) (sym key_is) (room_enough (setup_in w) w.tables (open_in w) w.words.now w.fits r taken.page taken.room)

  new_below : key new + page_count new ≤ w.geometry.cards * 2 ^ 36
  new_below = let card = admit.card in let short = new_short in omega arith

  new_frames : first_frame new + page_count new < 2 ^ 32
  new_frames =
      let few = admit.short in
      let own : p.landing ≡ r.buffer.address = ap (λ (z : Placement). z.landing) taken.place in
      let inside = admit.inside in
      let frames = w.possible.0.0.1 in omega arith

  -- what the records hold once a free one took the mapping
  pub one_more : (m : Mapping) (o : List Mapping) → m ≡ new → (length (open_in w) < 32 → ((n : Mapping) → In n (open_in w) → key n ≡ key m → ⊥) → o ≡ insert m (open_in w)) → o ≡ insert new (open_in w)
  one_more m o same h = h taken.record_free (λ k i g. new_key k i (g ∙ ap key same)) ∙ ap (λ (z : Mapping). insert z (open_in w)) same

  -- with first page and count as the code has them
  module _ (m : Mapping) (q n fr : ℕ) (made : m ≡ new) (first : q ≡ key m) (long : n ≡ page_count m) (frame : fr ≡ first_frame m) where
    first_is : q ≡ key new
    first_is = first ∙ ap key made

    long_is : n ≡ page_count new
    long_is = long ∙ ap page_count made

    frame_is : fr ≡ first_frame new
    frame_is = frame ∙ ap first_frame made

    pub span_fitted : Fitted w.tables w.words.now (q + n)
    span_fitted = record {
      cards = w.geometry.cards;
      tables = w.count;
      leaf = leaf_of (open_in w);
      pages = pages_of (open_in w);
      fits = w.fits;
      before = let a = first_is in let b = long_is in let c = new_below in omega arith;
    }

    pub span_room : lacking w.tables q n ≤ free_count w.tables
    span_room = rw (first_is, long_is) new_room

    pub span_frames : fr + n < 2 ^ 32
    span_frames = let a = frame_is in let b = long_is in let c = new_frames in omega arith

    pub span_below : q + n ≤ w.geometry.cards * 2 ^ 36
    span_below = let a = first_is in let b = long_is in let c = new_below in omega arith

    -- what the tables fit once the span is open and a record holds it
    pub opened_fits : (ts : List Table) (ws : List ℕ) (o : List Mapping)
        → Fits w.geometry.cards w.count ts (put_span (leaf_of (open_in w)) q n (λ j. word_of (rights_of m.direction) (fr + j))) (pages_from q n ++ pages_of (open_in w)) ws
        → o ≡ insert new (open_in w) → Fits w.geometry.cards w.count ts (leaf_of o) (pages_of o) ws
    opened_fits ts ws o h same =
        let d : m.direction ≡ new.direction = ap (λ (z : Mapping). z.direction) made in
        let P : ℕ → ℕ → ℕ → Direction → Type 0 = λ a b c k. Fits w.geometry.cards w.count ts (put_span (leaf_of (open_in w)) a b (λ j. word_of (rights_of k) (c + j))) (pages_from a b ++ pages_of (open_in w)) ws in
        let h1 = subst (λ (a : ℕ). P a n fr m.direction) first_is h in
        let h2 = subst (λ (a : ℕ). P (key new) a fr m.direction) long_is h1 in
        let h3 = subst (λ (a : ℕ). P (key new) (page_count new) a m.direction) frame_is h2 in
        let h4 = subst (λ (a : Direction). P (key new) (page_count new) (first_frame new) a) d h3 in
        subst (λ (z : List Mapping). Fits w.geometry.cards w.count ts (leaf_of z) (pages_of z) ws) (sym same)
        (fits_insert (setup_in w) w.geometry.cards w.count ts (open_in w) ws w.possible.0.0 new still_lawful h4)
