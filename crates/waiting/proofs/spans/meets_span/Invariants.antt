-- `waiting::spans::meets_span` meets its contract: a span is met among the tests that are left, or nowhere.
use mathlib.Core.Path.{◌≡◌}
use lib.ListN.{take, drop}
use Rattle.basics.specs.Lists.{any_of}
use Rattle.waiting.specs.views.SpanTests.{span_at}
use Rattle.waiting.proofs.spans.meets_span.Given as goal

abbrev pub invariant-loop-i : goal.invariant-loop-i
invariant-loop-i l =
    (any_of (span_at l.cells) (drop l.i (take l.edges l.met)) ≡ any_of (span_at l.cells) (take l.edges l.met))
