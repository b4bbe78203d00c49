-- Checks 8 and 9: what `check_room` answers, and that it is making's refusal, or that the buffers have room. Assumes nothing.
use Prim.Native.Nat.{ℕ, min, ◌+◌, ◌*◌, ◌≤◌, ◌<◌}
use mathlib.Core.Path.{◌≡◌, sym, ap}
use mathlib.Core.Bool.{Bool, true, false}
use mathlib.Core.Logic.{⊎_elim}
use mathlib.Core.List.{List}
use native.Mathlib.Omega.{arith}
use lib.Dec.{leb}
use borrow.Author.Tests.{leb-true, le-leb, lt-leb}
use Rattle.theory.specs.Fold.{both}
use Rattle.theory.specs.Answer.{Answer, refused, accepted, check, on_accepted}
use Rattle.theory.specs.Delay.{initial_words, arena}
use Rattle.theory.proofs.Answer.{refused_not_accepted}
use Rattle.theory.proofs.Fold.{below?, bool, both_true, both_false, both_left, both_right, both_none}
use Rattle.sheet.specs.Bodies.{delay_of}
use Rattle.reader.specs.Reading.{read_answer}
use Rattle.sheet.specs.SheetGame.{game_of}
use Rattle.reader.specs.declared.reading.Layout.{Layout}
use Rattle.sheet.proofs.SizeLaws.{small_sizes}
use Rattle.solver.specs.Solving.{solve_answer}
use Rattle.maker.specs.Making.{output_size, make_answer}
use Rattle.maker.specs.code.Checked.{nodes_at, words_at, room_answer, Ready}
use Rattle.maker.proofs.LayoutLaws.{asked_nodes, words_are}

-- n and w are the nodes and first words that the code has counted

module _ (N W n w M R O : ℕ) (en : n ≡ N) where
  pub short_buffers : min M R < n → refused 8 ≡ room_answer N W M R O
  unfolding room_answer check
  short_buffers h =
      ⊎_elim
      (λ (l : M < N). rw (both_none (leb N M) (leb N R) (lt-leb N M (omega arith))))
      (λ (g : N ≤ M). rw (both_false (leb N M) (leb N R) (lt-leb N R (omega arith))))
      (below? M N)

  module _ (ew : w ≡ W) (h : n ≤ min M R) where
    room : both (leb N M) (leb N R) ≡ true
    room = both_true _ _ (le-leb N M (omega arith)) (le-leb N R (omega arith))

    pub short_output : O < 19 + w + 2 * n → refused 9 ≡ room_answer N W M R O
    unfolding room_answer check
    short_output i = rw (room, lt-leb (19 + W + 2 * N) O (omega arith))

    pub room_enough : 19 + w + 2 * n ≤ O → accepted tt ≡ room_answer N W M R O
    unfolding room_answer check
    room_enough i = rw (room, le-leb (19 + W + 2 * N) O (omega arith))

pub ruleset rooms = (small_sizes, short_buffers, short_output, room_enough)

-- what the checks' answer says of a sheet that was read: that there is room, or that making gives this refusal
pub record Says (s : List ℕ) (l : Layout) (M R O : ℕ) (a : Answer (Unit {0})) : Type 0 where
  pub ready : a ≡ accepted tt → Ready s l M R O
  pub refuses : (x : ℕ) → a ≡ refused x → make_answer s M R O ≡ refused x

module _ (s : List ℕ) (l : Layout) (M R O : ℕ) (e : read_answer s ≡ accepted l) where
  abbrev nodes : ℕ
  nodes = (arena (game_of s) (delay_of s)).nodes

  abbrev enough : Bool
  enough = both (leb nodes M) (leb nodes R)

  abbrev fits : Bool
  fits = leb (output_size (game_of s) (delay_of s)) O

  says : Says s l M R O (room_answer nodes (initial_words (game_of s) (delay_of s)) M R O)
  unfolding make_answer solve_answer on_accepted room_answer output_size check
  says =
      ⊎_elim
      (λ (t : enough ≡ true).
      ⊎_elim
      (λ (u : fits ≡ true).
      record {
        ready =
            λ z. record {
              reads = e;
              masks_room = leb-true _ _ (both_left _ _ t);
              ranks_room = leb-true _ _ (both_right _ _ t);
              output_room = leb-true _ _ u;
            };
        refuses = λ x h. absurd (refused_not_accepted (sym (rw (t, u) at h)));
      })
      (λ (u : fits ≡ false).
      record {
        ready = λ z. absurd (refused_not_accepted (rw (t, u) at z));
        refuses = λ x h. let i = rw (t, u) at h in let n : 9 ≡ x = cc in rw (e, t, u) (ap refused n);
      })
      (bool fits))
      (λ (t : enough ≡ false).
      record {
        ready = λ z. absurd (refused_not_accepted (rw t at z));
        refuses = λ x h. let i = rw t at h in let n : 8 ≡ x = cc in rw (e, t) (ap refused n);
      })
      (bool enough)

  pub room_says : Says s l M R O (room_answer (nodes_at l l.delay) (words_at l) M R O)
  room_says = rw (asked_nodes s l e, words_are s l e) says
