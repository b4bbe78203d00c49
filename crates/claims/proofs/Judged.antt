-- W-202 over bytes (specs/Judged.antt). Assumes nothing.
use Prim.Native.Nat.{ℕ, ◌<◌}
use mathlib.Core.Path.{◌≡◌, refl, ◌∙◌, ap}
use mathlib.Core.Bool.{true, false}
use mathlib.Core.Logic.{⊎_elim}
use mathlib.Core.List.{List}
use native.Mathlib.Omega.{arith}
use Rattle.theory.specs.Answer.{accepted}
use Rattle.theory.specs.Game.{Legal}
use Rattle.theory.specs.Strategy.{Strategy}
use Rattle.theory.specs.Delay.{arena, initial_words}
use Rattle.theory.specs.Table.{Table, TableFits, Judged}
use Rattle.theory.specs.Judging.{word_ok, node_ok, sound, bad_word, bad_node}
use Rattle.theory.proofs.Fold.{not_both}
use Rattle.theory.proofs.Infinite.{wins_safe, wins_infinite}
use Rattle.theory.proofs.Tables.{obeys_wins}
use Rattle.theory.proofs.OurTable.{ours_judged, judged_inside, flagged_word, allows_action}
use Rattle.theory.proofs.NodeStrategy.{lowest_strategy, lowest_obeys}
use Rattle.theory.proofs.Judging.{word_good, word_offending, node_stands, node_offending, sound_judged, judged_sound, word_offends, node_offends}
use Rattle.sheet.specs.Bodies.{delay_of}
use Rattle.sheet.specs.SheetGame.{game_of}
use Rattle.reader.proofs.Legality.{legal_game}
use Rattle.table.specs.TableSheet.{decode}
use Rattle.judge.specs.Judging.{judge_answer}
use Rattle.judge.proofs.Accepted.{Agrees, agrees_passes, Ruled, ruled, ruling_is}
use Rattle.writer.specs.SheetBytes.{table_said}
use Rattle.maker.specs.Making.{won, make_answer}
use Rattle.maker.proofs.Readable.{table_for}
use Rattle.maker.proofs.Made.{made_parts, making_won}
use Rattle.controller.specs.Sound.{Sound}
use Rattle.controller.proofs.Accuracy.{some_word}
use Rattle.claims.specs.Judged.{Steered, Winning, Yes, OffendingWord, OffendingPair, NoByWord, NoByPair}

module _ (s t : List ℕ) (yes : judge_answer s t ≡ accepted sound) where
  said : Ruled s t sound
  said = ruled s t sound yes

  legal : Legal (game_of s)
  legal = legal_game s said.sheets.layout said.sheets.reads

  judged : Judged (game_of s) (delay_of s) (decode t).table
  judged = sound_judged (game_of s) (delay_of s) (decode t).table said.is

  -- what demand 3 asks of a table sheet
  pub yes_sound : Sound (game_of s) (decode t)
  unfolding game_of
  yes_sound =
      let a = said.sheets.agreed in
      record {
        actions = a.actions;
        highest = let h = a.highest in omega arith;
        short_delay = said.sheets.shaped.short_delay;
        fits = rw a.delay said.sheets.fits;
        judged = rw a.delay judged;
      }

  steered_wins : (σ : Strategy (game_of s).actions (delay_of s)) → Steered s t σ → Winning s σ
  steered_wins σ o =
      let w = obeys_wins (game_of s) legal (delay_of s) (decode t).table judged σ o in
      record {
        wins = w;
        safe = w.safe;
        permitted = w.playable;
        always_safe = wins_safe w;
        endless = wins_infinite (game_of s) legal (delay_of s) σ w;
      }

  -- the theorem
  pub yes_wins : Yes s t
  yes_wins =
      let f = some_word t (decode t) said.sheets.readable in
      let l = flagged_word (game_of s) (delay_of s) (decode t).table said.sheets.fits f.0 f.1 in
      record {
        winning = steered_wins;
        some = (
          lowest_strategy (game_of s) legal (delay_of s) (decode t).table said.sheets.fits judged f.0 l f.1,
          lowest_obeys (game_of s) legal (delay_of s) (decode t).table said.sheets.fits judged f.0 l f.1,
        );
        inside = judged_inside (game_of s) legal (delay_of s) (decode t).table said.sheets.fits judged;
      }

-- what a no names

module _ (s t : List ℕ) where
  abbrev T : Table
  T = (decode t).table

  word_bad : (v : ℕ) → v < initial_words (game_of s) (delay_of s) → word_ok (game_of s) (delay_of s) T v ≡ false → OffendingWord s t v
  word_bad v h e = let o = word_offending (game_of s) (delay_of s) T v e in record { word = h; flagged = o.0; bad = o.1 }

  word_fine : (v : ℕ) → word_ok (game_of s) (delay_of s) T v ≡ true → OffendingWord s t v → ⊥
  word_fine v e o = not_both (word_good (game_of s) (delay_of s) T v e o.flagged) o.bad

  node_bad : (k : ℕ) → k < (arena (game_of s) (delay_of s)).nodes → node_ok (arena (game_of s) (delay_of s)) T k ≡ false → OffendingPair s t k
  node_bad k h e =
      let o = node_offending (arena (game_of s) (delay_of s)) T k e in record { pair = h; mask = o.0; bad = o.1 }

  node_fine : TableFits (game_of s) (delay_of s) T → (k : ℕ) → node_ok (arena (game_of s) (delay_of s)) T k ≡ true → OffendingPair s t k → ⊥
  unfolding arena
  node_fine fits k e o =
      let n = node_stands (arena (game_of s) (delay_of s)) T k e o.mask in
      ⊎_elim
      (λ b. not_both n.right b)
      (λ b.
      ⊎_elim
      (λ b. not_both n.safe b)
      (λ (c, a, b). not_both b (n.unspoilt c (allows_action (game_of s) (delay_of s) T fits k c a) a))
      b)
      o.bad

pub no_word : (s t : List ℕ) (v : ℕ) → judge_answer s t ≡ accepted (bad_word v) → NoByWord s t v
no_word s t v e =
    let said = ruled s t (bad_word v) e in
    let f = word_offends (game_of s) (delay_of s) (decode t).table v said.is in
    record {
      offends = word_bad s t v f.below f.fails;
      first = λ w h. word_fine s t w (f.before w h);
    }

pub no_pair : (s t : List ℕ) (k : ℕ) → judge_answer s t ≡ accepted (bad_node k) → NoByPair s t k
no_pair s t k e =
    let said = ruled s t (bad_node k) e in
    let (words, f) = node_offends (game_of s) (delay_of s) (decode t).table k said.is in
    record {
      no_word = λ w o. word_fine s t w (words w o.word) o;
      offends = node_bad s t k f.below f.fails;
      first = λ j h. node_fine s t said.sheets.fits j (f.before j h);
    }

-- what a table sheet of the game says agrees with the game sheet, whatever its table
pub said_agrees : (s : List ℕ) → Legal (game_of s) → (T : Table) → Agrees s (table_said (game_of s) (delay_of s) T)
unfolding game_of
said_agrees s legal T =
    record { start = refl; actions = refl; delay = refl; highest = let some = legal.start_position in omega arith }

-- "our own sheets always get a yes"
pub made_yes : (s : List ℕ) (masks ranks output : ℕ) (t : List ℕ) → make_answer s masks ranks output ≡ accepted (won t)
    → judge_answer s t ≡ accepted sound
made_yes s masks ranks output t made =
    let m = made_parts s masks ranks output (won t) made in
    let w = making_won s masks ranks output t made in
    ruling_is s t m.layout (table_for (game_of s) (delay_of s)) m.reads w.reads
    (agrees_passes s _ (said_agrees s w.ranged.legal _))
    ∙ ap accepted
    (judged_sound (game_of s) (delay_of s) _ (ours_judged (game_of s) w.ranged.legal (delay_of s)))
