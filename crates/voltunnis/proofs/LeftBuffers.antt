-- The buffer is what a writer left, and the results that walks of many pieces say do not depend on it.
use Prim.Native.Nat.{ℕ}
use mathlib.Core.Path.{◌≡◌, refl}
use mathlib.Core.List.{List}
use Rattle.std.specs.Prelude.{Result, Ok, Err}
use Rattle.records.specs.declared.refusal.Refusal.{Refusal}
use Rattle.graph_check.specs.Rewritten as rewritten
use Rattle.tidying.specs.views.HandedBack as tidying
use Rattle.track.specs.views.HandedBack as track
use Rattle.walk_all.specs.views.Turns.{left_by}
use Rattle.walk_all.specs.declared.WalkedAll.{WalkedAll}

pub rewrote_buffer : (w : Result ℕ Refusal) (buffer : List ℕ) → buffer ≡ (rewritten.left_by w buffer).buffer
rewrote_buffer (Ok n) buffer = refl
rewrote_buffer (Err r) buffer = refl

pub tidied_buffer : (w : Result ℕ Refusal) (buffer : List ℕ) → buffer ≡ (tidying.left_by w buffer).buffer
tidied_buffer (Ok n) buffer = refl
tidied_buffer (Err r) buffer = refl

pub ordered_buffer : (w : Result Unit Refusal) (buffer : List ℕ) → buffer ≡ (track.left_by w buffer).buffer
ordered_buffer (Ok u) buffer = refl
ordered_buffer (Err r) buffer = refl

pub walked_buffer : (w : Result WalkedAll Refusal) (buffer : List ℕ) → buffer ≡ (left_by w buffer).buffer
walked_buffer (Ok x) buffer = refl
walked_buffer (Err r) buffer = refl

pub walked_results : (w : Result WalkedAll Refusal) (a b : List ℕ) → (left_by w a).results ≡ (left_by w b).results
walked_results (Ok x) a b = refl
walked_results (Err r) a b = refl
