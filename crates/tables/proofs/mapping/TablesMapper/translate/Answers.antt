use Rattle.std.proofs.Common.{refl, sym, subst, ◌∙◌, List}
use Rattle.cache.specs.declared.cache.Translation.{Translation}
use Rattle.cache.specs.Held.{held}
use Rattle.table_meaning.specs.Coherent.{Coherent}
use Rattle.table_meaning.proofs.Coherence.{coherent_added}
use Rattle.tables.proofs.Calls.{open_in}
use Rattle.tables.proofs.Accessing.{cache_hit, cache_noted, walk_gives}
use Rattle.tables.proofs.mapping.TablesMapper.translate.Goals as goal

pub returns-in-Some : goal.returns-in-Some
returns-in-Some c = cache_hit c.args.self.now c.args.card.0 c.args.page.0 c.args.access c.in-Some.reach c.judge.result (sym c.in-Some.ensures) c.judge.ensures

pub invariant_of-self : goal.invariant_of-self
invariant_of-self c =
    let s = c.args.self.now in
    record {
      possible = s.possible;
      fits = s.fits;
      coherent = subst (λ (xs : List Translation). Coherent xs (open_in s)) (sym c.add.ensures) (coherent_added (held s.cache) (open_in s) s.coherent _ c.in_ok-reach.ensures.0);
      idle = s.idle;
    }

pub returns : goal.returns
returns c =
    let s = c.args.self.now in
    record {
      fixed = refl;
      same = refl;
      judged = walk_gives s c.args.card.0 c.args.page.0 c.args.access c.in_ok-reach.reach c.in_ok-reach.ensures.0 c.in_ok-reach.ensures.1;
      left = record { tables = refl; words = refl; records = refl; cache = c.add.ensures ∙ cache_noted s c.args.card.0 c.args.page.0 c.args.access c.in_ok-reach.reach (sym c.in_default.ensures) c.in_ok-reach.ensures.0; queue = refl };
    }
