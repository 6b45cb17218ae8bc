-- What is possible for a lawful mapper stays so, whatever is opened by its choice, closed or turned.
use Rattle.std.proofs.Common.{◌≡◌, ℕ, ◌*◌, ◌<◌, true, List, is_some, Some, None, Ok, Option, sym, refl, ap, ◌∙◌, subst, arith}
use Rattle.units.specs.declared.mapping.Holder.{Holder}
use Rattle.units.specs.declared.mapping.Holder.TheVariants.{ByCard, ByCpu}
use Rattle.units.specs.declared.mapping.Mapping.{Mapping}
use Rattle.units.specs.declared.mapping.Placement.{Placement}
use Rattle.units.specs.declared.mapping.Request.{Request}
use Rattle.units.specs.declared.mapping.Sync.{Sync}
use Rattle.units.specs.declared.mapping.Sync.TheVariants.{ForCpu, ForCard}
use Rattle.units.specs.Directions.{code_of}
use Rattle.units.specs.Holders.{turned_by, holder_after}
use Rattle.meaning.specs.Mappings.{insert, remove, turn, find}
use Rattle.meaning.specs.Worlds.{Setup, Kind, Choice, world}
use Rattle.meaning.specs.Calls.{Call, map, unmap, sync}
use Rattle.meaning.specs.Checks.{Verdict, fine, chosen, verdict}
use Rattle.meaning.specs.Effects.{new_mapping, on_fine, on_choice, accepted}
use Rattle.meaning.proofs.Lists.{find_is_in, find_starts, remove_none, turn_none}
use Rattle.meaning.proofs.Unique.{one_start}
use Rattle.meaning.proofs.Verdicts.{Admitted}
use Rattle.layer.specs.Lawful.{Lawful}
use Rattle.layer.proofs.Finding.{starts_facts, missed, turn_same}
use Rattle.layer.proofs.Checks.{admitted_from, unmap_from, sync_from}

module _ (K : Kind) (P : Setup → List Mapping → Type 0) (law : Lawful K P) (S : Setup) (o : List Mapping) (h : P S o) where
  passed : (n : ℕ) (c : Call) → verdict (world K S n) o c ≡ fine → P S (accepted (world K S n) o c)
  passed n c e = subst (λ (z : Verdict). P S (on_fine z (accepted (world K S n) o c) o)) e (law.kept S o n c h)

  -- a request that the choice accepts
  pub grows : (n : ℕ) (r : Request) (q : Placement) → Admitted (world K S n) r → K.choice S o r ≡ Ok q → P S (insert (new_mapping r q) o)
  unfolding verdict
  grows n r q a e =
      subst (λ (z : Choice). P S (on_choice z o (λ p. insert (new_mapping r p) o))) e
      (passed n (map r) (admitted_from (world K S n) r (chosen (K.choice S o r)) a ∙ ap chosen e))

  card_of : (c v : ℕ) (m : Mapping) → find o c v ≡ Some m → c < S.cards
  card_of c v m e =
      let b = ((law.bounds S o h).each m (find_is_in c v o m e)).card in
      let s = (starts_facts c v m (find_starts c v o m e)).0 in omega arith

  -- any mapping, by its device address
  pub shrinks : (c v : ℕ) → P S (remove c v o)
  unfolding verdict
  shrinks c v = go (find o c v) refl
    where
      go : (f : Option Mapping) → find o c v ≡ f → P S (remove c v o)
      go None e = subst (P S) (sym (remove_none c v o (missed c v o e))) h
      go (Some m) e = passed (S.frames * 4096) (unmap c (code_of m.direction) v m.buffer.length) (unmap_from (world K S (S.frames * 4096)) o c v m (card_of c v m e) refl e)

  by_sync : (s : Sync) (c v : ℕ) (m : Mapping) → find o c v ≡ Some m → is_some (turned_by m.holder s) ≡ true → P S (turn (holder_after s) c v o)
  unfolding verdict
  by_sync s c v m e t = passed (S.frames * 4096) (sync s c v) (sync_from (world K S (S.frames * 4096)) o s c v m (card_of c v m e) refl e t)

  stays : (t : Holder) (c v : ℕ) (m : Mapping) → find o c v ≡ Some m → m.holder ≡ t → P S (turn t c v o)
  stays t c v m e same = subst (P S) (sym (turn_same t c v o (λ n i s.
      let m_in = find_is_in c v o m e in
      let b = (law.bounds S o h).each in
      ap (λ (z : Mapping). z.holder) (one_start S o (law.disjoint_pages S o h) c v m n m_in i (b m m_in).some (b n i).some (find_starts c v o m e) s) ∙ same))) h

  -- to any holder
  pub turns : (t : Holder) (c v : ℕ) → P S (turn t c v o)
  turns t c v = go (find o c v) refl
    where
      at : (t k : Holder) (m : Mapping) → find o c v ≡ Some m → m.holder ≡ k → P S (turn t c v o)
      at ByCard ByCard m e k = stays ByCard c v m e k
      at ByCard ByCpu m e k = by_sync ForCard c v m e (ap (λ (z : Holder). is_some (turned_by z ForCard)) k)
      at ByCpu ByCard m e k = by_sync ForCpu c v m e (ap (λ (z : Holder). is_some (turned_by z ForCpu)) k)
      at ByCpu ByCpu m e k = stays ByCpu c v m e k

      go : (f : Option Mapping) → find o c v ≡ f → P S (turn t c v o)
      go None e = subst (P S) (sym (turn_none t c v o (missed c v o e))) h
      go (Some m) e = at t m.holder m e refl
