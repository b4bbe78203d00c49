-- W-205 over bytes (specs/Posted.antt): what holds of the sheet that posting writes, for every two sheets, notice and output that it
-- accepts. Assumes nothing.
use Prim.Native.Nat.{ℕ, ◌/◌, ◌≤◌}
use mathlib.Core.Path.{◌≡◌, refl, sym, ◌∙◌, ap, subst}
use mathlib.Core.Bool.{true, false}
use mathlib.Core.List.{List}
use native.Mathlib.Omega.{arith}
use lib.ListN.{length}
use borrow.Author.Tests.{not-true}
use Rattle.theory.specs.Answer.{refused, accepted, on_accepted}
use Rattle.theory.specs.Game.{Game, Legal}
use Rattle.theory.specs.Play.{Rule, IsRule}
use Rattle.theory.specs.Exact.{Run}
use Rattle.theory.specs.Delay.{odd, words}
use Rattle.theory.specs.Table.{Table, ours, flagged, has, TableFits, Judged, Inside}
use Rattle.theory.specs.Judging.{sound}
use Rattle.theory.specs.Closing.{listed, open_in, close, post}
use Rattle.theory.proofs.Answer.{check_failed}
use Rattle.theory.proofs.Fold.{both_right}
use Rattle.theory.proofs.Judging.{sound_judged, judged_sound}
use Rattle.theory.proofs.Closing.{close_legal, close_fits, close_more, post_fits, post_inside, post_judged, post_largest, post_ours, start_shut_lem, pair_shut}
use Rattle.sheet.specs.Bodies.{positions_body, delay_of}
use Rattle.sheet.specs.SheetGame.{game_of}
use Rattle.table.specs.TableSheet.{TableSheet, decode, bytes_below, shape_answer, some_flagged, table_answer}
use Rattle.judge.specs.Judging.{judge_answer}
use Rattle.judge.proofs.Accepted.{agrees_passes, ruling_is}
use Rattle.writer.specs.SheetBytes.{header_of, table_sheet, table_said}
use Rattle.writer.proofs.Readable.{Ranged, table_length, table_says, table_shape, table_reads, sheet_ranged}
use Rattle.maker.specs.Making.{table_sheet_of, won, make_answer}
use Rattle.maker.proofs.Readable.{made_says}
use Rattle.maker.proofs.Made.{making_won}
use Rattle.notice.specs.Posting.{sheet_with, post_answer}
use Rattle.notice.proofs.Accepted.{Taken, taken, posting_is, posted_length}
use Rattle.controller.specs.Sound.{Sound}
use Rattle.controller.specs.Accuracy.{Call, begun, Truthful, exact_play, Accurate}
use Rattle.controller.proofs.Accuracy.{goes_safely, accurate}
use Rattle.claims.specs.Posted.{closed_of, Allowed, OpenAt, NeverCloses}
use Rattle.claims.proofs.Judged.{said_agrees}
use Rattle.claims.proofs.Closed.{close_rule, exact_same, worked_same, close_truthful}

-- a safe position of a closed yard is not closed
safe_open : (G : Game) (ps : List ℕ) (p : ℕ) → (close G ps).safe p ≡ true → listed ps p ≡ false
unfolding close open_in
safe_open G ps p e = not-true (listed ps p) (both_right (G.safe p) _ e)

-- the table sheet of a closed yard is that of the yard
sheet_same : (G : Game) (ps : List ℕ) (d : ℕ) (T : Table) → table_sheet G d T ≡ table_sheet (close G ps) d T
unfolding table_sheet header_of close
sheet_same G ps d T = refl

module _ (s t ps : List ℕ) (room : ℕ) (P : Table) (e : post_answer s t ps room ≡ accepted P) where
  abbrev G : Game
  G = game_of s

  abbrev d : ℕ
  d = delay_of s

  said : Taken s t ps room P
  said = taken s t ps room P e

  ranged : Ranged G d
  ranged = sheet_ranged s said.sheets.layout said.sheets.reads

  legal : Legal G
  legal = ranged.legal

  fits : TableFits G d P
  fits = rw said.is (post_fits G d ps (decode t).table)

  judged : Judged (closed_of s ps) d P
  judged = rw said.is (post_judged G d ps (decode t).table legal)

  -- "that the judging rule of W-202 allows with those positions unsafe"
  pub posted_allowed : Allowed s ps P
  posted_allowed = judged_sound (closed_of s ps) d P judged

  -- "pairs, commands and first words are only taken away"
  pub posted_inside : Inside P (decode t).table
  posted_inside = rw said.is (post_inside G d ps (decode t).table)

  -- "the largest part of that table"
  pub posted_largest : (T : Table) → TableFits (game_of s) (delay_of s) T → Allowed s ps T → Inside T (decode t).table → Inside T P
  posted_largest T f a i =
      rw said.is (post_largest G d ps (decode t).table legal T f (sound_judged (closed_of s ps) d T a) i)

  -- the written sheet is read back
  pub posted_reads : shape_answer (sheet_with s P) ≡ accepted (table_said (game_of s) (delay_of s) P)
  posted_reads = table_shape G d P fits ranged

  -- "Posting reads such sheets": a later notice can be posted on it, whether or not a first word remains
  pub posted_again : (qs : List ℕ) (size : ℕ) → bytes_below (length (positions_body s)) qs ≡ true → length (sheet_with s P) ≤ size
      → post_answer s (sheet_with s P) qs size ≡ accepted (post (game_of s) (delay_of s) qs P)
  posted_again qs size exist long =
      posting_is s (sheet_with s P) qs size said.sheets.layout (table_said G d P) said.sheets.reads posted_reads
      (agrees_passes s _ (said_agrees s legal P)) exist
      (rw (posted_length s qs P ∙ sym (table_length G d P fits)) long)

  -- "If no first word remains, the sheet is written with W all 0": reading a winning sheet refuses it
  pub posted_none : some_flagged P ≡ false → table_answer (sheet_with s P) ≡ refused 12
  unfolding table_answer on_accepted
  posted_none none = rw posted_reads (check_failed _ 12 _ none)

  -- posted sheets are judged yes against the unclosed yard too
  pub posted_yes : some_flagged P ≡ true → judge_answer s (sheet_with s P) ≡ accepted sound
  posted_yes some =
      ruling_is s (sheet_with s P) said.sheets.layout (table_said G d P) said.sheets.reads (table_reads G d P fits ranged some)
      (agrees_passes s _ (said_agrees s legal P))
      ∙ ap accepted (judged_sound G d P (close_more G ps d P judged))

  -- what demand 3 asks of the written sheet, in the closed yard
  posted_sound : Sound (closed_of s ps) (table_said G d P)
  unfolding close
  posted_sound =
      record {
        actions = refl;
        highest = let some = legal.start_position in omega arith;
        short_delay = ranged.short_delay;
        fits = close_fits G ps d P fits;
        judged = judged;
      }

  module _ (some : some_flagged P ≡ true) (rule : Rule) (is : IsRule (game_of s) rule) where
    abbrev sheet : List ℕ
    sheet = sheet_with s P

    reads : table_answer sheet ≡ accepted (decode sheet)
    reads = rw (table_says G d P fits ranged) (table_reads G d P fits ranged some)

    decoded_sound : Sound (closed_of s ps) (decode sheet)
    decoded_sound = rw (table_says G d P fits ranged) posted_sound

    -- the cabin's accuracy holds of it with the closed positions counted as unsafe, for every list of calls with true reports
    pub posted_accuracy : (calls : List Call) → Truthful (game_of s) (sheet_with s P) rule begun calls
        → Accurate (closed_of s ps) (sheet_with s P) rule calls
    posted_accuracy calls h =
        accurate (closed_of s ps) sheet rule (close_legal G ps legal) reads decoded_sound (close_rule G ps rule is) calls
        (close_truthful G ps rule sheet begun calls h)

    -- a play of the yard that is the exact play of the closed yard
    never_closed : (run : Run) (n : ℕ) → run ≡ exact_play (closed_of s ps) (decode sheet) rule n → (k : ℕ) → OpenAt s ps run k
    unfolding close
    never_closed run n same k =
        let g = goes_safely (closed_of s ps) sheet rule (close_legal G ps legal) reads decoded_sound (close_rule G ps rule is) n in
        subst (λ (r : Run). OpenAt s ps r k) (sym same) (safe_open G ps _ (g.safely k))

    -- over 1,000,000 turns no play enters a closed position
    pub posted_never_closed : NeverCloses s ps (sheet_with s P) rule
    posted_never_closed =
        record {
          exact = λ n few. never_closed _ n (sym (exact_same G ps rule (decode sheet).delay (decode sheet).table n));
          worked = λ calls h. never_closed _ _ (sym (worked_same G ps rule _) ∙ (posted_accuracy calls h).played);
        }

  -- "On our own table this equals what document 01's rounds give afresh at that lag", also where the yard or the closed yard is losing
  pub posted_fresh : t ≡ table_sheet_of (game_of s) (delay_of s) → sheet_with s P ≡ table_sheet_of (closed_of s ps) (delay_of s)
  unfolding table_sheet_of
  posted_fresh own =
      let table : (decode t).table ≡ ours G d = ap (λ (x : TableSheet). x.table) (ap decode own ∙ made_says G d ranged) in
      ap (sheet_with s) (said.is ∙ ap (post G d ps) table ∙ post_ours G legal d ps) ∙ sheet_same G ps d (ours (closed_of s ps) d)

  -- and so on the sheets that we make
  pub made_posted : (masks ranks output : ℕ) → make_answer s masks ranks output ≡ accepted (won t)
      → sheet_with s P ≡ table_sheet_of (closed_of s ps) (delay_of s)
  made_posted masks ranks output made = posted_fresh (making_won s masks ranks output t made).sheet

  -- a closed start leaves no first word at odd lag
  pub posted_shut_start : odd (delay_of s) ≡ true → listed ps (game_of s).start ≡ true → (v : ℕ) → flagged P v ≡ false
  posted_shut_start o l v = rw said.is (start_shut_lem G d ps (decode t).table o l v)

  -- and at any lag the pairs of a closed position have no mask
  pub posted_shut_pairs : (k : ℕ) → listed ps (k / words (game_of s) (delay_of s)) ≡ true → has P k ≡ false
  posted_shut_pairs k l = rw said.is (pair_shut G d ps (decode t).table k l)
