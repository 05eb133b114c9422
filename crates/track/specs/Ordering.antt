-- What writing the order of a track drawing answers, and what it leaves in the lent buffer (document 02, request 14).
use Rattle.std.specs.Prelude.{ℕ, List, eqb, length}
use Rattle.records.specs.Reading.{ask}
use Rattle.records.specs.Written.{Result, result_of, ask_fits}
use Rattle.order.specs.TableBytes.{table_bytes}
use Rattle.track.specs.Track.{track_order}

-- "It refuses a list that isn't 1,360 bytes (37) and then a buffer shorter than 1,360 bytes (38)." Else request 1's table, which
-- has 1,360 bytes, stands at the front of the buffer.
unfoldable pub ordered : List ℕ → List ℕ → Result
ordered positions buffer =
    result_of buffer (ask 37 (eqb (length positions) 1360) (ask_fits 38 buffer (table_bytes (track_order positions))))
