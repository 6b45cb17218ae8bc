use Rattle.std.proofs.Common.{◌≡◌, take, drop}
use Rattle.mapper.specs.Called.{here}
use Rattle.engine.specs.Made.{state}
use Rattle.runs.specs.Commands.{Ran, LeftInTurn}
use Rattle.runs.proofs.making.run.Given as goal

-- the steps so far have run, and the others are as they were
abbrev pub invariant-loop-step : goal.invariant-loop-step
invariant-loop-step g l = record {
  fixed : g.M.Meaning.setup l.engine.mapper ≡ g.M.Meaning.setup l.initial.engine.mapper;
  rest : drop l.step-index l.steps ≡ drop l.step-index l.initial.steps;
  ran : Ran (here g.M.Meaning l.initial.engine.mapper l.initial.memory) (state (g.M.Meaning.opened l.initial.engine.mapper) l.initial.memory l.initial.engine.reports)
      (state (g.M.Meaning.opened l.engine.mapper) l.memory l.engine.reports) (take l.step-index l.initial.steps) (take l.step-index l.steps);
  left : LeftInTurn g.M.Meaning l.initial.engine.mapper l.engine.mapper (take l.step-index l.initial.steps) (take l.step-index l.steps);
}
