-- Results written one after another, for whatever the walk replies: what is written so far, and which pieces are to come.
use Prim.Native.Nat.{ℕ, ◌+◌, ◌-◌, ◌*◌, ◌/◌, ◌≤◌, min}
use mathlib.Core.Path.{◌≡◌, refl, sym, ap, ◌∙◌}
use mathlib.Core.List.{List, [], ◌∷◌, ◌++◌, append_assoc, append-nil}
use native.Mathlib.Omega.{arith}
use lib.ListN.{length, take, drop, length-append}
use lib.Seq.{drop-drop}
use Rattle.records.specs.Reading.{Reading, took, refused}
use Rattle.records.specs.Writing.{splice}
use Rattle.records.proofs.Writing.{splice_none, splice_more}
use Rattle.decision.specs.Node.{Node}
use Rattle.decision.specs.Walk.{Walk}
use Rattle.graph_check.specs.CheckGraph.{graph_reading}
use Rattle.walk.specs.Walking.{walk_reply, reply_values, walk_refusal_values}
use Rattle.walk_all.specs.WalkAll.{result_length, result_bytes, most_results, most_taken, pieces_in, bytes_taken, results_of}
use Rattle.walk_all.specs.WalkAll.{WalkAll, walked_for, walk_all}

module _ (reply : List ℕ → Reading Walk) (input xs : List ℕ) (room : ℕ) where
  abbrev pub all : List (Reading (List ℕ))
  all = pieces_in room most_taken input

  -- The pieces to come after n results and so many bytes.
  abbrev pub rest_from : ℕ → ℕ → List (Reading (List ℕ))
  rest_from n from = pieces_in (room - n) (most_taken - from) (drop from input)

  -- The buffer xs has become ys: the results of n pieces stand at its front.
  pub record Progress (n from : ℕ) (ys : List ℕ) : Type 0 where
    pub done : List ℕ
    pub size : length done ≡ 16 * n
    pub count : length all ≡ n + length (rest_from n from)
    pub taken : bytes_taken all ≡ from + bytes_taken (rest_from n from)
    pub to_come : results_of reply all ≡ done ++ results_of reply (rest_from n from)
    pub wrote : ys ≡ splice xs 0 done

  abbrev outcome : ℕ → ℕ → List ℕ → WalkAll
  outcome n from ys = record { refusal = 0; results = n; bytes = from; buffer = ys }

  -- What is handed back and left for all pieces.
  abbrev pub whole : WalkAll
  whole = outcome (length all) (bytes_taken all) (splice xs 0 (results_of reply all))

  pub at_start : Progress 0 0 xs
  at_start =
      let same : room ≡ room - 0 = omega arith in
      let none : all ≡ rest_from 0 0 = ap (λ (k : ℕ). pieces_in k most_taken input) same in
      record {
        done = [];
        size = refl;
        count = omega (arith, ap length none);
        taken = omega (arith, ap bytes_taken none);
        to_come = ap (results_of reply) none;
        wrote = splice_none xs 0;
      }

  module _ {n from : ℕ} {ys : List ℕ} (p : Progress n from ys) where
    -- No piece is to come.
    pub at_end_lem : rest_from n from ≡ [] → outcome n from ys ≡ whole
    at_end_lem none =
        let count : n ≡ length all = omega (arith, p.count, ap length none) in
        let taken : from ≡ bytes_taken all = omega (arith, p.taken, ap bytes_taken none) in
        let results : p.done ≡ results_of reply all =
        sym (p.to_come ∙ ap (λ (l : List (Reading (List ℕ))). p.done ++ results_of reply l) none ∙ append-nil p.done) in
        λ i. outcome (count i) (taken i) ((p.wrote ∙ ap (splice xs 0) results) i)

    module _ (fits : 16 * n + 16 ≤ length xs) where
      -- One result more is written.
      written : (r : List ℕ) {zs : List ℕ} → zs ≡ splice ys (16 * n) r → zs ≡ splice xs 0 (p.done ++ r)
      written r e =
          let here : 16 * n ≡ 0 + length p.done = omega (arith, p.size) in
          e
          ∙ ap (λ (l : List ℕ). splice l (16 * n) r) p.wrote
          ∙ ap (λ (k : ℕ). splice (splice xs 0 p.done) k r) here
          ∙ splice_more xs 0 p.done r (omega (arith, p.size))

      -- The last one.
      pub at_last
          : {q : ℕ} {zs : List ℕ} → rest_from n from ≡ refused q ∷ []
          → zs ≡ splice ys (16 * n) (result_bytes (walk_refusal_values q)) → outcome (n + 1) from zs ≡ whole
      at_last {q} e w =
          let last = result_bytes (walk_refusal_values q) in
          let count : n + 1 ≡ length all = omega (arith, p.count, ap length e) in
          let taken : from ≡ bytes_taken all = omega (arith, p.taken, ap bytes_taken e) in
          let results : p.done ++ last ≡ results_of reply all =
          sym
          (p.to_come
          ∙ ap (λ (l : List (Reading (List ℕ))). p.done ++ results_of reply l) e
          ∙ ap (p.done ++◌) (append-nil last)) in
          λ i. outcome (count i) (taken i) ((written last w ∙ ap (splice xs 0) results) i)

      -- That of a piece that was read.
      pub at_piece
          : {k : ℕ} {zs : List ℕ}
          → rest_from n from
          ≡ took k (take k (drop from input)) ∷ pieces_in (room - n - 1) (most_taken - from - k) (drop k (drop from input))
          → zs ≡ splice ys (16 * n) (result_bytes (reply_values (reply (take k (drop from input)))))
          → Progress (n + 1) (from + k) zs
      at_piece {k} e w =
          let piece = took k (take k (drop from input)) in
          let one = result_bytes (reply_values (reply (take k (drop from input)))) in
          let room-less : room - n - 1 ≡ room - (n + 1) = omega arith in
          let bytes-less : most_taken - from - k ≡ most_taken - (from + k) = omega arith in
          let behind : pieces_in (room - n - 1) (most_taken - from - k) (drop k (drop from input)) ≡ rest_from (n + 1) (from + k) =
          rw (room-less, bytes-less, drop-drop k from input) in
          let first : rest_from n from ≡ piece ∷ rest_from (n + 1) (from + k) = e ∙ ap (piece ∷◌) behind in
          record {
            done = p.done ++ one;
            size = omega (arith, length-append p.done one, p.size);
            count = omega (arith, p.count, ap length first);
            taken = omega (arith, p.taken, ap bytes_taken first);
            to_come =
                p.to_come
                ∙ ap (λ (l : List (Reading (List ℕ))). p.done ++ results_of reply l) first
                ∙ sym (append_assoc p.done one (results_of reply (rest_from (n + 1) (from + k))));
            wrote = written one w;
          }

-- All pieces of the input, where the graph is accepted for the sheet; and nothing where one of the two is refused.
module _ (s g input xs : List ℕ) where
  pub all_walked
      : {room k : ℕ} {nodes : List (Node ℕ)} → room ≡ min (length xs / result_length) most_results
      → graph_reading s g ≡ took k nodes → whole (walk_reply s g) input xs room ≡ walk_all s g input xs
  unfolding walk_all
  all_walked {room} e read =
      ap (whole (walk_reply s g) input xs) e
      ∙ sym (ap (walked_for xs (walk_reply s g) (pieces_in (min (length xs / result_length) most_results) most_taken input)) read)

  pub all_refused
      : {q : ℕ} → graph_reading s g ≡ refused q
      → ◌≡◌ {A = WalkAll} (record { refusal = q; results = 0; bytes = 0; buffer = xs }) (walk_all s g input xs)
  unfolding walk_all
  all_refused read =
      sym (ap (walked_for xs (walk_reply s g) (pieces_in (min (length xs / result_length) most_results) most_taken input)) read)
