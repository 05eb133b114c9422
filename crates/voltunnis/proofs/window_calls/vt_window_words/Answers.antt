-- The counts, packed.
use mathlib.Core.Path.{ap, ◌∙◌}
use Rattle.packing.specs.PackedWords.{packed_words}
use Rattle.voltunnis.proofs.window_calls.vt_window_words.Goals as goal

pub returns : goal.returns
returns c =
    c.pack_words.ensures ∙ ap packed_words c.words.ensures
