use Rattle.std.proofs.Common.{rules, inl, inr, sym, ◌∙◌, arith, ltb, cond}
use borrow.Author.Tests.{tests}
use Rattle.std.proofs.lemmas.Bool.{cases_lt, cond-false, le-ltb}
use Rattle.std.proofs.lemmas.List.{get_or_past}
use Rattle.tree.specs.declared.place.Table.TheVariants.{Missing, Free}
use Rattle.tree.specs.Places.{place}
use Rattle.table_meaning.specs.Starting.{start_of}
use Rattle.pages.proofs.Made.{made_each}
use Rattle.table_meaning.proofs.start.first_tables.Goals as goal

pub returns : goal.returns
returns c =
    let C = c.args.cards in
    let T = c.args.count in
    let m = made_each _ _ (start_of C T) Missing 64 c.from_fn.result (λ i y q l k. search (rules, tests)) c.from_fn.ensures.items in
    let few = c.requires in
    λ t. elim (cases_lt t 64) [
      | inl b ↦ m.1 t b
      | inr p ↦ (let long = m.0 in get_or_past c.from_fn.result t Missing (omega arith) ∙ sym (cond-false (ltb t T) (cond (ltb t C) (place 4 t) Free) Missing (le-ltb t T (omega arith))))
    ]
