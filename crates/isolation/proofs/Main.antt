-- The promise, by going through both lists side by side.
use Rattle.std.proofs.Common.{◌≡◌, ℕ, true, ◌⊎◌, List, [], ◌∷◌, refl, sym, ap, subst, ◌∙◌, inl, inr}
use Rattle.std.proofs.lemmas.Bool.{cond-true, cond-false, eqb-false}
use Rattle.units.specs.declared.mapping.Mapping.{Mapping}
use Rattle.meaning.specs.Memory.{Bytes}
use Rattle.meaning.specs.Worlds.{Setup, Kind, World, world}
use Rattle.meaning.specs.Calls.{Call, Answer}
use Rattle.meaning.specs.Effects.{State, answer, after, opens_after}
use Rattle.meaning.specs.Runs.{answers, final}
use Rattle.isolation.specs.Lists.{at_set_up, left_by, is_own, struck, without_bytes, struck_answers}
use Rattle.isolation.specs.Promise.{Accepted, Isolated}
use Rattle.isolation.proofs.Landing.{Lawful}
use Rattle.isolation.proofs.Reports.{told_same}
use Rattle.isolation.proofs.Pairs.{Pairs, ends, left, right, both, pairs}
use Rattle.isolation.proofs.Granting.{Granted, accepted_from}
use Rattle.isolation.proofs.Matched.{Matched, matched_more, matched_swapped, own_step, both_step, same_answer, same_cpu_byte, same_card_byte}

-- what every call keeps holds of what is left open
pub open_left : (W : World) (Open : List Mapping → Type 0) → ((o : List Mapping) (c : Call) → Open o → Open (opens_after W o c))
    → (s : State) → Open s.opens → (l : List Call) → Open (final W s l).opens
unfolding final
open_left W Open kept s i [] = i
open_left W Open kept s i (c ∷ l) = open_left W Open kept (after W s c) (kept s.opens c i) l

module _ (K : Kind) (S : Setup) (n A : ℕ) (Open : List Mapping → Type 0)
    (kept : (o : List Mapping) (c : Call) → Open o → Open (opens_after (world K S n) o c))
    (lawful : (o : List Mapping) → Open o → Lawful S (K.reserved S) o) where
  own_second : (G : ℕ → Type 0) (s t : State) (c : Call) → is_own A c ≡ true → Open s.opens → Matched (K.reserved S) A G s t
      → Matched (K.reserved S) A G s (after (world K S n) t c)
  own_second G s t c e i m = matched_swapped (K.reserved S) A G (after (world K S n) t c) s
      (own_step K S n A G t s c e (subst (Lawful S (K.reserved S)) m.opens (lawful s.opens i)) (matched_swapped (K.reserved S) A G s t m))

  -- the states that the lists lead to
  run_matched : (l k : List Call) → Pairs A l k → (G : ℕ → Type 0) (s t : State) → Open s.opens → Matched (K.reserved S) A G s t
      → Matched (K.reserved S) A (λ b. G b ⊎ Granted (world K S n) A s l b) (final (world K S n) s l) (final (world K S n) t k)
  unfolding final
  run_matched l k ends G s t i m = matched_more (K.reserved S) A G _ s t (λ b g. inl g) m
  run_matched l k (left {c = c} {l = j} {k = h} e p) G s t i m =
      let s' = after (world K S n) s c in
      let later = run_matched j h p G s' t (kept s.opens c i) (own_step K S n A G s t c e (lawful s.opens i) m) in
      matched_more (K.reserved S) A (λ b. G b ⊎ Granted (world K S n) A s' j b) _ _ _ (λ b g. elim g [ inl a ↦ inl a | inr a ↦ inr (inr a) ]) later
  run_matched l k (right {c = c} {l = j} {k = h} e p) G s t i m =
      run_matched j h p G s (after (world K S n) t c) i (own_second G s t c e i m)
  run_matched l k (both {c = c} {l = j} {k = h} e p) G s t i m =
      let s' = after (world K S n) s c in
      let later = run_matched j h p _ s' (after (world K S n) t c) (kept s.opens c i)
      (both_step K S n A G s t c (lawful s.opens i) (lawful s'.opens (kept s.opens c i)) m) in
      matched_more (K.reserved S) A _ _ _ _ (λ b g. elim g [ inl a ↦ elim a [ inl d ↦ inl d | inr d ↦ inr (inl d) ] | inr a ↦ inr (inr a) ]) later

  -- and the answers on the way
  run_answers : (l k : List Call) → Pairs A l k → (G : ℕ → Type 0) (s t : State) → Open s.opens → Matched (K.reserved S) A G s t
      → struck_answers A l (answers (world K S n) s l) ≡ struck_answers A k (answers (world K S n) t k)
  unfolding answers struck_answers
  run_answers l k ends G s t i m = refl
  run_answers l k (left {c = c} {l = j} {k = h} e p) G s t i m =
      cond-true (is_own A c) _ _ e ∙ run_answers j h p G (after (world K S n) s c) t (kept s.opens c i) (own_step K S n A G s t c e (lawful s.opens i) m)
  run_answers l k (right {c = c} {l = j} {k = h} e p) G s t i m =
      run_answers j h p G s (after (world K S n) t c) i (own_second G s t c e i m) ∙ sym (cond-true (is_own A c) _ _ e)
  run_answers l k (both {c = c} {l = j} {k = h} e p) G s t i m =
      let s' = after (world K S n) s c in
      let t' = after (world K S n) t c in
      let later = run_answers j h p _ s' t' (kept s.opens c i) (both_step K S n A G s t c (lawful s.opens i) (lawful s'.opens (kept s.opens c i)) m) in
      cond-false (is_own A c) _ _ e
      ∙ (ap (λ (a : Answer). a ∷ struck_answers A j (answers (world K S n) s' j)) (same_answer K S n A G s t c e m)
      ∙ (ap (λ (a : List Answer). without_bytes (answer (world K S n) t c) ∷ a) later ∙ sym (cond-false (is_own A c) _ _ e)))

  module _ (none : Open []) (x : Bytes) where
    start_matched : Matched (K.reserved S) A (λ b. ⊥) (at_set_up x) (at_set_up x)
    start_matched = record {
      opens = refl;
      tied = record { plain = λ b r n. refl; pooled = λ m i q f r w n. refl; granted = λ m i w b h. absurd i; clean = λ m i b h. absurd i };
      told = told_same A (at_set_up x).reports;
    }

    matched : (l k : List Call) → struck A l ≡ struck A k
        → Matched (K.reserved S) A (λ b. Accepted (world K S n) A x l b) (left_by (world K S n) x l) (left_by (world K S n) x k)
    matched l k e = matched_more (K.reserved S) A _ _ _ _ (λ b g. elim g [ inl a ↦ absurd a | inr a ↦ accepted_from (world K S n) A x l b a ])
        (run_matched l k (pairs A l k e) (λ b. ⊥) (at_set_up x) (at_set_up x) none start_matched)

    pub isolated_by : (l k : List Call) → struck A l ≡ struck A k → Isolated (world K S n) A x l k
    isolated_by l k e = record {
      same_answers = run_answers l k (pairs A l k e) (λ b. ⊥) (at_set_up x) (at_set_up x) none start_matched;
      same_memory = λ b r not. (matched l k e).tied.plain b r not;
      same_cpu_reads = λ p q a m t h i not. same_cpu_byte K S n A _ (left_by (world K S n) x p) (left_by (world K S n) x q) a m t (matched p q h.same_before) i not;
      same_card_reads = λ p q c v m t h i not. same_card_byte K S n A _ (left_by (world K S n) x p) (left_by (world K S n) x q) c v m t (eqb-false c A h.other)
          (lawful _ (open_left (world K S n) Open kept (at_set_up x) none p)) (matched p q h.same_before) i not;
    }
