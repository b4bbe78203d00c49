-- What an accepted posting says: both sheets were read and agree, the notice's positions exist, the written sheet fits the output, and
-- the table left is theory's. Assumes nothing.
use Prim.Native.Nat.{ℕ, ◌+◌, ◌≤◌, ◌<◌}
use mathlib.Core.Path.{◌≡◌, sym, ◌∙◌, subst}
use mathlib.Core.Bool.{true}
use mathlib.Core.Logic.{⊎_elim}
use mathlib.Core.List.{List, []}
use native.Mathlib.Omega.{arith}
use lib.ListN.{length, get_or}
use borrow.Author.Tests.{leb-true, ltb-true, le-leb, lt-ltb}
use Rattle.theory.specs.Fold.{either}
use Rattle.theory.specs.Answer.{accepted, check, on_accepted}
use Rattle.theory.specs.Delay.{initial_words, arena}
use Rattle.theory.specs.Table.{Table}
use Rattle.theory.specs.Closing.{listed, post}
use Rattle.theory.proofs.Fold.{not_both, same_test, either_right, either_cases, all_at, all_below_lem}
use Rattle.theory.proofs.Answer.{accepted_same, check_accepted, check_passed}
use Rattle.theory.proofs.Closing.{post_fits}
use Rattle.theory.proofs.Notices.{listed_nil, entry_listed, listed_entry}
use Rattle.sheet.specs.Bodies.{positions_body, delay_of}
use Rattle.reader.specs.Reading.{read_answer}
use Rattle.sheet.specs.SheetGame.{game_of}
use Rattle.reader.specs.declared.reading.Layout.{Layout}
use Rattle.table.specs.TableSheet.{TableSheet, decode, below_at, bytes_below, shape_answer}
use Rattle.table.proofs.Accepted.{shape_accepted}
use Rattle.judge.specs.Judging.{sheets_agree}
use Rattle.judge.proofs.Accepted.{BothRead, both_read}
use Rattle.writer.proofs.Readable.{table_length}
use Rattle.notice.specs.Posting.{sheet_with, fitted_answer, post_answer}

pub record Taken (s t ps : List ℕ) (room : ℕ) (P : Table) : Type 0 where
  pub sheets : BothRead s t (shape_answer t)
  pub exist : bytes_below (length (positions_body s)) ps ≡ true
  pub fitted : length (sheet_with s P) ≤ room
  pub is : P ≡ post (game_of s) (delay_of s) ps (decode t).table

module _ (s t ps : List ℕ) (room : ℕ) where
  pub taken : (P : Table) → post_answer s t ps room ≡ accepted P → Taken s t ps room P
  unfolding post_answer fitted_answer
  taken P e =
      let a = both_read s t (shape_answer t) (shape_accepted t) _ e in
      let n = check_accepted _ 23 _ a.1 in
      let f = check_accepted _ 9 _ n.1 in
      let left : post (game_of s) (delay_of s) ps (decode t).table ≡ P = accepted_same f.1 in
      record {
        sheets = a.0;
        exist = n.0;
        fitted = subst (λ (T : Table). length (sheet_with s T) ≤ room) left (leb-true _ _ f.0);
        is = sym left;
      }

  -- once both sheets are read and agree, checks 23 and 9 are left
  pub posting_checks : (l : Layout) (x : TableSheet) → read_answer s ≡ accepted l → shape_answer t ≡ accepted x → sheets_agree s x ≡ true
      → post_answer s t ps room
      ≡ check (bytes_below (length (positions_body s)) ps) 23 (fitted_answer s (post (game_of s) (delay_of s) ps x.table) room)
  unfolding post_answer on_accepted
  posting_checks l x a b c = rw (a, b) (check_passed _ 21 _ c)

  -- and where they pass, the posting is accepted
  pub posting_is : (l : Layout) (x : TableSheet) → read_answer s ≡ accepted l → shape_answer t ≡ accepted x → sheets_agree s x ≡ true
      → bytes_below (length (positions_body s)) ps ≡ true
      → length (sheet_with s (post (game_of s) (delay_of s) ps x.table)) ≤ room
      → post_answer s t ps room ≡ accepted (post (game_of s) (delay_of s) ps x.table)
  unfolding fitted_answer
  posting_is l x a b c n f = posting_checks l x a b c ∙ check_passed _ 23 _ n ∙ check_passed _ 9 _ (le-leb _ _ f)

-- the written sheet's length does not depend on the notice
pub posted_length : (s ps : List ℕ) (T : Table) → length (sheet_with s (post (game_of s) (delay_of s) ps T))
    ≡ 19 + initial_words (game_of s) (delay_of s) + (arena (game_of s) (delay_of s)).nodes
posted_length s ps T =
    table_length (game_of s) (delay_of s) (post (game_of s) (delay_of s) ps T) (post_fits (game_of s) (delay_of s) ps T)

-- check 23 asks only which positions are listed

module _ (n : ℕ) (ps : List ℕ) where
  exist_listed : bytes_below n ps ≡ true → (p : ℕ) → listed ps p ≡ true → p < n
  unfolding bytes_below below_at
  exist_listed e p l =
      let (i, h, q) = listed_entry ps p l in
      let small = ltb-true (get_or ps i 0) n (all_at _ (length ps) e i h) in
      omega arith

  listed_exist : ((p : ℕ) → listed ps p ≡ true → p < n) → bytes_below n ps ≡ true
  unfolding bytes_below below_at
  listed_exist f = all_below_lem _ (length ps) (λ i h. lt-ltb (get_or ps i 0) n (f (get_or ps i 0) (entry_listed ps i h)))

pub exist_none : (n : ℕ) → bytes_below n [] ≡ true
exist_none n = listed_exist n [] (λ p l. absurd (not_both l (listed_nil p)))

-- of two notices as one it asks what it asks of the second, where the first has passed
pub exist_joined : (n : ℕ) (ps qs rs : List ℕ) → bytes_below n ps ≡ true → ((p : ℕ) → listed rs p ≡ either (listed ps p) (listed qs p))
    → bytes_below n qs ≡ bytes_below n rs
exist_joined n ps qs rs e joins =
    same_test _ _
    (λ x.
    listed_exist n rs
    (λ p l. ⊎_elim (λ a. exist_listed n ps e p a) (λ b. exist_listed n qs x p b) (either_cases _ _ (sym (joins p) ∙ l))))
    (λ x. listed_exist n qs (λ p l. exist_listed n rs x p (joins p ∙ either_right _ _ l)))
