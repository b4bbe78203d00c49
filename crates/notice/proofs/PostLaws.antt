-- Posting, as the code of src/posting.rt does it. Assumes nothing.
use Prim.Native.Nat.{ℕ, ◌+◌, ◌-◌, ◌*◌, ◌≤◌, ◌<◌}
use mathlib.Core.Path.{◌≡◌, refl, sym, ◌∙◌, ap}
use mathlib.Core.Bool.{Bool, true, false, not, cond}
use mathlib.Core.List.{List, []}
use mathlib.Core.Logic.{⊎_elim}
use native.Mathlib.Omega.{arith}
use lib.Dec.{eqb}
use mir.Val.{Fits as Word}
use mir.Syntax.{w64}
use lib.ListN.{length, get_or, take, replicate, length-replicate}
use lib.Seq.{ext_get_or}
use borrow.Author.Rules.{rules}
use borrow.Author.Tests.{le-leb, lt-leb}
use Rattle.theory.specs.Fold.{both, tabulate}
use Rattle.theory.specs.Answer.{Answer, refused, accepted, check, on_accepted}
use Rattle.theory.specs.Buffer.{over}
use Rattle.theory.specs.Game.{Game, Legal}
use Rattle.theory.specs.Delay.{odd, words, initial_words, arena, good_by, good_from, flag_by}
use Rattle.theory.specs.Table.{Table, flagged, has, allows, TableFits}
use Rattle.theory.specs.Closing.{listed, open_in, close, within, post, SizedMasks}
use Rattle.theory.proofs.Buffer.{over_first}
use Rattle.theory.proofs.Answer.{check_passed, check_failed}
use Rattle.theory.proofs.Fold.{same?, same_test, both_true, both_left, both_right, length_tabulate, get_d_tabulate}
use Rattle.theory.proofs.Tables.{good_more}
use Rattle.theory.proofs.Part.{fits_sized, flagged_part, part_region}
use Rattle.theory.proofs.Within.{masks_only}
use Rattle.theory.proofs.Closing.{close_legal, post_fits, post_inside, post_judged}
use Rattle.sheet.specs.Limits.{most_nodes, most_words}
use Rattle.sheet.specs.Form.{part_at}
use Rattle.sheet.specs.Bodies.{positions_body, delay_of}
use Rattle.sheet.specs.SheetGame.{game_of}
use Rattle.sheet.specs.Refusals.{number_of}
use Rattle.sheet.proofs.RefusalLaws.{by_accepted, by_refused}
use Rattle.sheet.specs.declared.refusal.Refusal.{Refusal}
use Rattle.sheet.specs.Refusals.{answer_of, answer_by}
use Rattle.std.proofs.Common.{Result, Ok, Err}
use Rattle.reader.specs.Reading.{read_answer}
use Rattle.reader.specs.declared.reading.Layout.{Layout}
use Rattle.reader.proofs.Accepted.{carries, few_nodes, arena_nodes, read_accepted, read_refused}
use Rattle.reader.proofs.Legality.{legal_game}
use Rattle.rule.specs.code.Parts.{Marked, marks_after}
use Rattle.rule.proofs.PartCode.{after_marked}
use Rattle.judge.specs.Judging.{sheets_agree}
use Rattle.judge.specs.code.Judgeable.{table_with, layouts_agree, Judgeable}
use Rattle.judge.proofs.JudgeLaws.{agree_layouts}
use Rattle.judge.proofs.Accepted.{Agrees, agrees, agreed_fits}
use Rattle.judge.proofs.WordLaws.{flag_test, good_same, flag_in}
use Rattle.table.specs.TableSheet.{table_at, bytes_below, shape_answer, some_flagged}
use Rattle.table.proofs.Accepted.{shape_accepted}
use Rattle.table.specs.declared.reading.TableLayout.{TableLayout}
use Rattle.text.specs.Page.{Page, page, puts}
use Rattle.text.proofs.Page.{written}
use Rattle.writer.specs.SheetBytes.{header_of, table_bytes, table_sheet, written_sheet}
use Rattle.writer.proofs.Readable.{sheet_ranged, few_words, table_short}
use Rattle.writer.proofs.WriteLaws.{table_size, written_whole}
use Rattle.notice.proofs.Accepted.{posting_checks, posted_length}
use Rattle.notice.specs.Posting.{Written, sheet_with, fitted_answer, post_answer, posting, output_posted, written_of, written_by}
use Rattle.notice.specs.declared.posting.Posting.TheVariants.{Posted, Emptied}
use Rattle.notice.specs.code.Left.{left_of, good_flags_by, start_shut, kept_flag, kept_flag_at, kept_after, numbers_of, Agreed, Postable, written_with, written_left}

-- a word is good with positions closed exactly if it is good, and the start is open where it is passed first

swapped : (a b c : Bool) → both (both a b) c ≡ both (both a c) b
unfolding both
swapped true true true = refl
swapped true true false = refl
swapped true false true = refl
swapped true false false = refl
swapped false b c = refl

alone : (b : Bool) → b ≡ both b true
unfolding both
alone true = refl
alone false = refl

open_by : (G : Game) (ps : List ℕ) (m : ℕ) (keeps : ℕ → Bool) (v : ℕ) (b : Bool)
    → good_by b (close G ps) m keeps v ≡ both (good_by b G m keeps v) (not (both b (listed ps G.start)))
unfolding good_by close open_in both
open_by G ps m keeps v true = unfold both in (swapped (G.safe G.start) (not (listed ps G.start)) _)
open_by G ps m keeps v false = unfold both in (alone (keeps (G.start * m + v)))

good_closed : (G : Game) (ps : List ℕ) (d : ℕ) (keeps : ℕ → Bool) (v : ℕ)
    → good_from (close G ps) d keeps v ≡ both (good_from G d keeps v) (not (start_shut d G.start ps))
unfolding good_from start_shut words close
good_closed G ps d keeps v = unfold close in (open_by G ps (words G d) keeps v (odd d))

module _ (s : List ℕ) (l : Layout) (ps flags masks : List ℕ) (reads : read_answer s ≡ accepted l)
    (fits : TableFits (game_of s) (delay_of s) (table_with flags masks)) where
  abbrev G : Game
  G = game_of s

  abbrev d : ℕ
  d = delay_of s

  abbrev T : Table
  T = table_with flags masks

  abbrev P : Table
  P = left_of s ps flags masks

  legal : Legal G
  legal = legal_game s l reads

  left_fits : TableFits G d P
  left_fits = post_fits G d ps T

  pub masks_sized : SizedMasks (arena G d) masks
  masks_sized = fits_sized G d T fits

  masks_same : (left_of s ps [] masks).masks ≡ P.masks
  unfolding post
  masks_same = masks_only (close G ps) d (table_with [] masks) T refl

  shut_legal : Legal (close G ps)
  shut_legal = close_legal G ps legal

  word_shut : (v : ℕ) → v < initial_words G d → v < initial_words (close G ps) d
  unfolding initial_words close
  word_shut v h = h

  -- a flagged word that is good by the masks left is left
  word_back : (v : ℕ) → v < initial_words G d → flagged T v ≡ true → good_from (close G ps) d (has P) v ≡ true → flagged P v ≡ true
  unfolding post within
  word_back v h f g =
      flagged_part (close G ps) d (flagged T) (allows T) v (word_shut v h) f
      (good_more (close G ps) shut_legal d _ _ v (word_shut v h) (part_region (close G ps) d (flagged T) (allows T)) g)

  abbrev shut : Bool
  shut = start_shut d G.start ps

  word_left : (v : ℕ) → v < initial_words G d → flagged P v ≡ both (flagged T v) (both (good_from G d (has P) v) (not shut))
  word_left v h =
      same_test _ _
      (λ f.
      both_true _ _ ((post_inside G d ps T).flags v f)
      (sym (good_closed G ps d (has P) v) ∙ (post_judged G d ps T legal).words v (word_shut v h) f))
      (λ e. word_back v h (both_left _ _ e) (good_closed G ps d (has P) v ∙ both_right _ _ e))

  shut_is : start_shut l.delay l.start ps ≡ shut
  unfolding game_of
  shut_is = let c = carries s l reads in rw (c.start, c.delay)

  -- a flag that is left, by its number
  flag_number : (v : ℕ) → get_or P.flags v 0 ≡ cond (flagged P v) 1 0
  unfolding flagged
  flag_number v = one (get_or P.flags v 0) (left_fits.flags_small v)
    where
      one : (n : ℕ) → n ≤ 1 → n ≡ cond (not (eqb n 0)) 1 0
      one n h =
          ⊎_elim
          (λ (e : n ≡ 0). rw e)
          (λ e. let q : n ≡ 1 = some e h in rw q)
          (same? n 0)
        where
          some : {n : ℕ} → (n ≡ 0 → ⊥) → n ≤ 1 → n ≡ 1
          some e h = omega arith

  -- the buffers: left has the masks that are left, good the flags of the words that are good by them
  module _ (left good : List ℕ) (el : left ≡ (left_of s ps [] masks).masks) (room : most_words ≤ length good) where
    left_are : left ≡ P.masks
    left_are = el ∙ masks_same

    marked : Marked P.masks (marks_after left (replicate most_nodes 0))
    marked =
        rw left_are
        (after_marked P.masks (replicate most_nodes 0)
        (omega (arith, left_fits.masks_length, arena_nodes s d, few_nodes s l reads, length-replicate {A = ℕ} most_nodes 0)))

    judgeable : Judgeable s l P.flags P.masks
    judgeable = record { reads = reads; fits = left_fits }

    good_at : (v : ℕ) → v < initial_words G d
        → get_or (good_flags_by s left good) v 0 ≡ cond (good_from G d (has P) v) 1 0
    unfolding flag_by
    good_at v h =
        flag_in s l P.flags P.masks judgeable _ marked good v room h
        ∙ ap (λ b. cond b 1 0) (good_same G legal d P left_fits _ marked v h)

    kept_at : (v : ℕ) → v < initial_words G d → kept_flag_at shut flags (good_flags_by s left good) v ≡ get_or P.flags v 0
    unfolding kept_flag_at kept_flag flagged
    kept_at v h =
        rw (good_at v h, flag_test (good_from G d (has P) v))
        (ap (λ b. cond b 1 0) (sym (unfold flagged in (word_left v h))) ∙ sym (unfold flagged in (flag_number v)))

    words_count : length flags ≡ initial_words G d
    words_count = fits.flags_length

    pub words_left : {after : List ℕ} → after ≡ kept_after (start_shut l.delay l.start ps) flags (good_flags_by s left good)
        → take (length flags) after ≡ P.flags
    words_left e =
        rw (e, shut_is)
        (over_first (tabulate (kept_flag_at shut flags (good_flags_by s left good)) 0 (length flags)) (good_flags_by s left good) (length flags)
        (sym (length_tabulate _ 0 (length flags)))
        ∙ ext_get_or 0 _ _ (length_tabulate _ 0 (length flags) ∙ words_count ∙ sym left_fits.flags_length)
        (λ v h.
        let i : v < length flags = rw (length_tabulate (kept_flag_at shut flags (good_flags_by s left good)) 0 (length flags)) at h in
        get_d_tabulate (kept_flag_at shut flags (good_flags_by s left good)) (length flags) v 0 i ∙ kept_at v (rw words_count at i)))

  -- buffers for the largest table have room
  pub few_masks : length masks ≤ most_nodes
  few_masks = omega (arith, fits.masks_length, arena_nodes s d, few_nodes s l reads)

  pub few_flags : length flags ≤ most_words
  few_flags = omega (arith, fits.flags_length, few_words G d (sheet_ranged s l reads))

-- the sheet is written

module _ (x : TableLayout) (h flags masks out out' : List ℕ) (size : ℕ) (eh : h ≡ numbers_of x)
    (short : length (table_bytes (numbers_of x) flags masks) < 65536) (room : length (table_bytes (numbers_of x) flags masks) ≤ length out)
    (wrote : page out' size ≡ puts (page out 0) (written_sheet 2 (table_bytes h flags masks))) where
  whole : page out' size ≡ page (over (table_bytes (numbers_of x) flags masks) out) (length (table_bytes (numbers_of x) flags masks))
  unfolding over
  whole =
      wrote
      ∙ rw eh
      (ap (puts (page out 0)) (written_whole 2 (table_bytes (numbers_of x) flags masks) short)
      ∙ written (table_bytes (numbers_of x) flags masks) out room)

  pub out_is : out' ≡ over (table_bytes (numbers_of x) flags masks) out
  out_is = ap (λ (p : Page). p.bytes) whole

  size_is : size ≡ length (table_bytes (numbers_of x) flags masks)
  size_is = ap (λ (p : Page). p.at) whole

  pub some_left : {r : Bool} → r ≡ some_flagged (table_with flags []) → r ≡ true
      → written_by (Posted size) ≡ written_with flags (length (table_bytes (numbers_of x) flags masks))
  some_left e t = rw (← size_is, ← e, t)

  pub none_left : {r : Bool} → r ≡ some_flagged (table_with flags []) → r ≡ false
      → written_by (Emptied size) ≡ written_with flags (length (table_bytes (numbers_of x) flags masks))
  none_left e t = rw (← size_is, ← e, t)

pub ruleset written_left_lem = (rules, out_is, some_left, none_left)

-- once every check has passed

module _ (s : List ℕ) (l : Layout) (x : TableLayout) (ps flags masks : List ℕ) (room : ℕ) (can : Postable s l x flags masks room) where
  abbrev left : Table
  left = left_of s ps flags masks

  sheet_is : table_bytes (numbers_of x) left.flags left.masks ≡ sheet_with s left
  unfolding table_sheet
  sheet_is = rw can.numbers

  left_fitted : TableFits (game_of s) (delay_of s) left
  left_fitted = post_fits (game_of s) (delay_of s) ps (table_with flags masks)

  sheet_size : length (table_bytes (numbers_of x) left.flags left.masks) ≡ length (table_bytes (numbers_of x) flags masks)
  sheet_size =
      rw (
        table_size (numbers_of x) left.flags left.masks,
        table_size (numbers_of x) flags masks,
        left_fitted.flags_length,
        left_fitted.masks_length,
        can.fits.flags_length,
        can.fits.masks_length,
      )

  -- the buffers hold what is left
  module _ (buffer good₀ good : List ℕ) (em : take (length masks) buffer ≡ (left_of s ps [] masks).masks) (room₀ : most_words ≤ length good₀)
      (eg : good ≡ kept_after (start_shut l.delay l.start ps) flags (good_flags_by s (take (length masks) buffer) good₀)) where
    flags_are : take (length flags) good ≡ left.flags
    flags_are = words_left s l ps flags masks can.reads can.fits (take (length masks) buffer) good₀ em room₀ eg

    masks_are : take (length masks) buffer ≡ left.masks
    masks_are = em ∙ masks_same s l ps flags masks can.reads can.fits

    bytes_are : table_bytes (numbers_of x) (take (length flags) good) (take (length masks) buffer) ≡ sheet_with s left
    bytes_are = rw (flags_are, masks_are) sheet_is

    pub sheet_short : length (table_bytes (numbers_of x) (take (length flags) good) (take (length masks) buffer)) < 65536
    sheet_short = rw bytes_are (table_short (game_of s) (delay_of s) left left_fitted (sheet_ranged s l can.reads))

    pub sheet_room : length (table_bytes (numbers_of x) (take (length flags) good) (take (length masks) buffer)) ≤ room
    sheet_room = rw (bytes_are, ← sheet_is, sheet_size) can.room_enough

    pub answer_left : {a : Written}
        → a ≡ written_with (take (length flags) good) (length (table_bytes (numbers_of x) (take (length flags) good) (take (length masks) buffer)))
        → a ≡ written_left s ps flags masks
    unfolding some_flagged flagged
    answer_left e = e ∙ rw (bytes_are, flags_are)

    pub output_left : (out : List ℕ) {out' : List ℕ}
        → out' ≡ over (table_bytes (numbers_of x) (take (length flags) good) (take (length masks) buffer)) out
        → out' ≡ over (sheet_with s left) out
    output_left out e = e ∙ ap (λ b. over b out) bytes_are

pub ruleset bodies_posted =
    (rules, sheet_short, sheet_room, answer_left, output_left)

-- the answer and the output of a refusal

module _ (s : List ℕ) (a : Answer Table) (n : ℕ) (e : a ≡ refused n) where
  refused_answer : refused n ≡ written_of s a
  unfolding written_of on_accepted
  refused_answer = rw e

  refused_output : (out : List ℕ) → out ≡ output_posted s a out
  unfolding output_posted
  refused_output out = rw e

-- checks 23 and 9

module _ (s : List ℕ) (l : Layout) (t : List ℕ) (x : TableLayout) (ps : List ℕ) (out : List ℕ) (both : Agreed s l t x) where
  abbrev given : Table
  given = (table_at t x).table

  agreed : Agrees s (table_at t x)
  agreed = agrees s (table_at t x) both.agrees

  given_fits : TableFits (game_of s) (delay_of s) given
  given_fits = agreed_fits s (table_at t x) agreed (shape_accepted t (table_at t x) both.shape).1

  numbers_are : numbers_of x ≡ header_of (game_of s) (delay_of s)
  unfolding header_of game_of
  numbers_are =
      let h : x.highest ≡ length (positions_body s) - 1 = omega (arith, agreed.highest) in
      rw (agreed.start, agreed.actions, agreed.delay, h)

  count_is : l.positions.size ≡ length (positions_body s)
  count_is = (carries s l both.reads).positions_size

  answer_is : posting s t ps out
      ≡ check (bytes_below (length (positions_body s)) ps) 23 (fitted_answer s (post (game_of s) (delay_of s) ps given) (length out))
  answer_is = posting_checks s t ps (length out) l (table_at t x) both.reads both.shape both.agrees

  module _ {r : Bool} (e : r ≡ bytes_below l.positions.size ps) where
    absent_is : r ≡ false → posting s t ps out ≡ refused 23
    absent_is f = answer_is ∙ rw (← count_is) (check_failed _ 23 _ (sym e ∙ f))

    pub absent_answer : r ≡ false → refused 23 ≡ written_of s (posting s t ps out)
    absent_answer f = refused_answer s _ 23 (absent_is f)

    pub absent_output : r ≡ false → out ≡ output_posted s (posting s t ps out) out
    absent_output f = refused_output s _ 23 (absent_is f) out

    module _ (f : r ≡ true) (w m : List ℕ) (ew : w ≡ part_at t x.flags) (em : m ≡ part_at t x.masks) where
      exist : bytes_below (length (positions_body s)) ps ≡ true
      exist = rw (← count_is) (sym e ∙ f)

      size_now : length (sheet_with s (post (game_of s) (delay_of s) ps given)) ≡ 19 + length w + length m
      size_now = posted_length s ps given ∙ rw (ew, em, given_fits.flags_length, given_fits.masks_length)

      next_is : posting s t ps out ≡ fitted_answer s (post (game_of s) (delay_of s) ps given) (length out)
      next_is = answer_is ∙ check_passed _ 23 _ exist

      pub sizes_fit : Word w64 (19 + length w + length m)
      sizes_fit =
          let r = sheet_ranged s l both.reads in
          record {
            fits =
                rw (← size_now)
                (omega (arith, table_short (game_of s) (delay_of s) _ (post_fits (game_of s) (delay_of s) ps given) r));
          }

      short_is : length out < 19 + length w + length m → posting s t ps out ≡ refused 9
      unfolding fitted_answer
      short_is h = next_is ∙ check_failed _ 9 _ (lt-leb _ (length out) (rw size_now h))

      pub short_answer : length out < 19 + length w + length m → refused 9 ≡ written_of s (posting s t ps out)
      short_answer h = refused_answer s _ 9 (short_is h)

      pub short_output : length out < 19 + length w + length m → out ≡ output_posted s (posting s t ps out) out
      short_output h = refused_output s _ 9 (short_is h) out

      module _ (h : 19 + length w + length m ≤ length out) where
        taken_is : posting s t ps out ≡ accepted (left_of s ps w m)
        unfolding fitted_answer
        taken_is = next_is ∙ check_passed _ 9 _ (le-leb _ (length out) (rw size_now h)) ∙ rw (ew, em)

        pub postable : Postable s l x w m (length out)
        postable =
            let f : TableFits (game_of s) (delay_of s) (table_with w m) = rw (ew, em) given_fits in
            record {
              reads = both.reads;
              fits = f;
              sized = masks_sized s l ps w m both.reads f;
              few_flags = few_flags s l ps w m both.reads f;
              few_masks = few_masks s l ps w m both.reads f;
              numbers = numbers_are;
              room_enough = rw (table_size (numbers_of x) w m) (omega arith);
            }

        pub taken_answer : {a : Written} → a ≡ written_left s ps w m → accepted a ≡ written_of s (posting s t ps out)
        unfolding written_of on_accepted
        taken_answer e = ap accepted e ∙ rw taken_is

        pub taken_output : {out' : List ℕ} → out' ≡ over (sheet_with s (left_of s ps w m)) out → out' ≡ output_posted s (posting s t ps out) out
        unfolding output_posted
        taken_output e = e ∙ rw taken_is

-- the checks before; rd and y are the two readings

module _ (s t : List ℕ) (rd : Result Layout Refusal) (e : answer_of rd ≡ read_answer s) (l : Layout) (a : rd ≡ Ok l)
    (y : Result TableLayout Refusal) (ey : answer_by (table_at t) y ≡ shape_answer t) where
  reads : read_answer s ≡ accepted l
  reads = read_accepted s rd e l a

  module _ (x : TableLayout) (b : y ≡ Ok x) {r : Bool} (er : r ≡ layouts_agree l x) where
    shape : shape_answer t ≡ accepted (table_at t x)
    shape = by_accepted (table_at t) y _ ey x b

    agree_is : r ≡ sheets_agree s (table_at t x)
    agree_is = er ∙ agree_layouts s t l x reads

    pub both_agree : r ≡ true → Agreed s l t x
    both_agree f = record { reads = reads; shape = shape; agrees = sym agree_is ∙ f }

  module _ (ps out : List ℕ) where
    module _ (x : Refusal) (f : y ≡ Err x) where
      shapeless : posting s t ps out ≡ refused (number_of x)
      unfolding post_answer on_accepted
      shapeless = rw (reads, by_refused (table_at t) y _ ey x f)

      pub shapeless_answer : refused (number_of x) ≡ written_of s (posting s t ps out)
      shapeless_answer = refused_answer s _ _ shapeless

      pub shapeless_output : out ≡ output_posted s (posting s t ps out) out
      shapeless_output = refused_output s _ _ shapeless out

    module _ (x : TableLayout) (b : y ≡ Ok x) {r : Bool} (er : r ≡ layouts_agree l x) where
      other_is : r ≡ false → posting s t ps out ≡ refused 21
      unfolding post_answer on_accepted
      other_is f = rw (reads, shape x b er) (check_failed _ 21 _ (sym (agree_is x b er) ∙ f))

      pub other_answer : r ≡ false → refused 21 ≡ written_of s (posting s t ps out)
      other_answer f = refused_answer s _ 21 (other_is f)

      pub other_output : r ≡ false → out ≡ output_posted s (posting s t ps out) out
      other_output f = refused_output s _ 21 (other_is f) out

module _ (s t ps out : List ℕ) (rd : Result Layout Refusal) (e : answer_of rd ≡ read_answer s) (x : Refusal) (f : rd ≡ Err x) where
  unread : posting s t ps out ≡ refused (number_of x)
  unfolding post_answer on_accepted
  unread = rw (read_refused s rd e x f)

  pub unread_answer : refused (number_of x) ≡ written_of s (posting s t ps out)
  unread_answer = refused_answer s _ _ unread

  pub unread_output : out ≡ output_posted s (posting s t ps out) out
  unread_output = refused_output s _ _ unread out

pub ruleset posted =
    (rules, unread_answer, shapeless_answer, other_answer, other_output, both_agree, absent_answer, absent_output, sizes_fit, short_answer, short_output, taken_answer)
