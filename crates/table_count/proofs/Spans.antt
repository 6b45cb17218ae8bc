-- How many tables a span of pages lacks.
use Rattle.std.proofs.Common.{◌≡◌, ℕ, zero, suc, ◌+◌, ◌≤◌, Bool, true, false, cond, ◌||◌, List, ◌++◌, sym, ap, ◌∙◌, arith}
use Rattle.std.proofs.Math.Path.{ap₂}
use Rattle.std.specs.Prelude.{is_some}
use Rattle.walk.specs.Indices.{prefix}
use Rattle.tree.specs.declared.place.Table.{Table}
use Rattle.tree.specs.Places.{table_for}
use Rattle.tree.specs.Layout.{shared}
use Rattle.tree.specs.Counts.{pages_from, prefixes, tables_of, lacks_next, lacking}
use Rattle.tree.proofs.Rows.{shared_next}
use Rattle.tree.proofs.Sharing.{shared_append}

-- what the next page of a span adds at one level
next_adds : (ts : List Table) (l q n : ℕ) (qs : List ℕ) → ((k : ℕ) → is_some (table_for ts l k) ≡ shared qs l k)
    → lacks_next ts l q n + prefixes l (pages_from q n ++ qs) ≡ prefixes l (pages_from q (suc n) ++ qs)
next_adds ts l q n qs served =
    let k = prefix l (q + n) in
    let P = prefixes l (pages_from q n ++ qs) in
    ap₂ (λ a b. cond a 0 (cond b 0 1) + P) (sym (shared_next q n l)) (served k)
    ∙ (go (shared (pages_from q n) l k) (shared qs l k) P
    ∙ ap (λ b. cond b P (suc P)) (sym (shared_append (pages_from q n) qs l k)))
  where
    go : (a b : Bool) (m : ℕ) → cond a 0 (cond b 0 1) + m ≡ cond (a || b) m (suc m)
    go true b m = omega arith
    go false true m = omega arith
    go false false m = omega arith

-- The tables that a span lacks are those that it takes beside the open pages.
pub lacking_counts : (ts : List Table) (q n : ℕ) (qs : List ℕ) → ((l k : ℕ) → 1 ≤ l → l ≤ 3 → is_some (table_for ts l k) ≡ shared qs l k)
    → lacking ts q n + tables_of qs ≡ tables_of (pages_from q n ++ qs)
lacking_counts ts q zero qs served = omega arith
lacking_counts ts q (suc n) qs served =
    let i = lacking_counts ts q n qs served in
    let a = next_adds ts 1 q n qs (λ k. served 1 k (omega arith) (omega arith)) in
    let b = next_adds ts 2 q n qs (λ k. served 2 k (omega arith) (omega arith)) in
    let c = next_adds ts 3 q n qs (λ k. served 3 k (omega arith) (omega arith)) in
    omega arith
