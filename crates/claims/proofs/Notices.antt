-- W-206 over bytes (specs/Notices.antt): it does not matter in which order notices are posted, how often, or how they are grouped, on any
-- table sheet that posting accepts; and an empty notice takes nothing from our own. Assumes nothing.
use Prim.Native.Nat.{ℕ, ◌≤◌}
use mathlib.Core.Path.{◌≡◌, refl, sym, ◌∙◌, ap, subst, fun_ext}
use mathlib.Core.Bool.{true}
use mathlib.Core.Logic.{◌↔◌}
use mathlib.Core.List.{List, [], ◌∷◌, ◌++◌}
use lib.ListN.{length}
use Rattle.theory.specs.Fold.{either}
use Rattle.theory.specs.Answer.{Answer, accepted, check, on_accepted}
use Rattle.theory.specs.Buffer.{over}
use Rattle.theory.specs.Game.{Game, Legal}
use Rattle.theory.specs.Table.{Table, ours}
use Rattle.theory.specs.Judging.{sound, ruling}
use Rattle.theory.specs.Closing.{listed, post}
use Rattle.theory.proofs.Fold.{not_both, either_second, either_inside, either_swap, any_of_nil, any_of_cons}
use Rattle.theory.proofs.Answer.{accepted_on}
use Rattle.theory.proofs.Buffer.{over_first}
use Rattle.theory.proofs.Judging.{sound_judged}
use Rattle.theory.proofs.OurTable.{ours_fits, ours_judged}
use Rattle.theory.proofs.Closing.{post_fits}
use Rattle.theory.proofs.Notices.{listed_nil, listed_append, close_none, post_same, post_joined, post_post, post_still, post_empty}
use Rattle.sheet.specs.Bodies.{positions_body, delay_of}
use Rattle.sheet.specs.SheetGame.{game_of}
use Rattle.reader.specs.Reading.{read_answer}
use Rattle.table.specs.TableSheet.{TableSheet, decode, shape_answer}
use Rattle.judge.specs.Judging.{sheets_agree}
use Rattle.judge.proofs.Accepted.{agrees_passes}
use Rattle.writer.specs.SheetBytes.{table_said}
use Rattle.writer.proofs.Readable.{Ranged, table_length, table_says, table_shape, sheet_ranged}
use Rattle.maker.specs.Making.{table_sheet_of, won, make_answer}
use Rattle.maker.proofs.Made.{made_parts, making_won}
use Rattle.notice.specs.Posting.{sheet_with, post_answer, output_posted, written_of, posting}
use Rattle.notice.proofs.Accepted.{Taken, taken, posting_checks, posting_is, posted_length, exist_none, exist_joined}
use Rattle.claims.specs.Notices.{Accepts, size_in, sheet_after, SamePosting, Unaltered, Series, first, next, named}
use Rattle.claims.specs.Posted.{closed_of, Allowed}
use Rattle.claims.proofs.Judged.{said_agrees}
use Rattle.claims.proofs.Posted.{posted_allowed, posted_reads, posted_again}

-- an accepted posting, by the table that it leaves

module _ (s t ps out : List ℕ) where
  leaves : Accepts s t ps out → (P : Table) × (posting s t ps out ≡ accepted P)
  unfolding written_of
  leaves (w, e) = let a = accepted_on (posting s t ps out) _ e in (a.0, a.1)

  module _ (P : Table) (e : posting s t ps out ≡ accepted P) where
    accepts_so : Accepts s t ps out
    unfolding written_of on_accepted
    accepts_so = (_, ap (written_of s) e)

    after_is : sheet_after s t ps out ≡ sheet_with s P
    unfolding sheet_after size_in written_of output_posted on_accepted
    after_is = rw e (over_first (sheet_with s P) out _ refl)

-- a sheet that is that of the table left
unaltered : (s t ps : List ℕ) (P : Table) → t ≡ sheet_with s P
    → ((out : List ℕ) → length t ≤ length out → posting s t ps out ≡ accepted P)
    → Unaltered s t ps
unfolding output_posted
unaltered s t ps P is again =
    record {
      accepts = λ out long. accepts_so s t ps out P (again out long);
      output = λ out long. ap (λ a. output_posted s a out) (again out long) ∙ ap (λ u. over u out) (sym is);
      sheet = λ out long. after_is s t ps out P (again out long) ∙ sym is;
    }

-- the answers decide
same_posting : (s t ps u qs : List ℕ) → ((room : ℕ) → post_answer s t ps room ≡ post_answer s u qs room) → SamePosting s t ps u qs
same_posting s t ps u qs same =
    record {
      answer = λ out. ap (written_of s) (same (length out));
      output = λ out. ap (λ a. output_posted s a out) (same (length out));
      sheet =
          λ out out' a b.
          let (P, e) = leaves s t ps out a in
          let (Q, f) = leaves s u qs out' b in
          let q = (taken s t ps (length out') Q (same (length out') ∙ f)).is in
          after_is s t ps out P e ∙ ap (sheet_with s) ((taken s t ps (length out) P e).is ∙ sym q) ∙ sym (after_is s u qs out' Q f);
    }

-- a list that names the same positions is the same notice, "with repeats or in another order": for any two sheets, refused ones too
pub same_notice : (s t ps qs : List ℕ) → ((p : ℕ) → listed ps p ≡ listed qs p) → SamePosting s t ps t qs
unfolding post_answer
same_notice s t ps qs same =
    same_posting s t ps t qs
    (λ room.
    ap
    (λ (f : TableSheet → Answer Table).
    on_accepted (read_answer s) (λ l. on_accepted (shape_answer t) (λ x. check (sheets_agree s x) 21 (f x))))
    (fun_ext
    (λ x.
    rw (
      exist_joined (length (positions_body s)) [] ps qs (exist_none _) (λ p. sym (either_second _ _ (listed_nil p) ∙ same p)),
      post_same (game_of s) (delay_of s) ps qs x.table same,
    ))))

module _ (s t ps out : List ℕ) (h : Accepts s t ps out) where
  abbrev G : Game
  G = game_of s

  abbrev d : ℕ
  d = delay_of s

  abbrev T : Table
  T = (decode t).table

  -- the sheet that was written
  abbrev after : List ℕ
  after = sheet_after s t ps out

  abbrev P : Table
  P = (leaves s t ps out h).0

  left : posting s t ps out ≡ accepted P
  left = (leaves s t ps out h).1

  said : Taken s t ps (length out) P
  said = taken s t ps (length out) P left

  ranged : Ranged G d
  ranged = sheet_ranged s said.sheets.layout said.sheets.reads

  legal : Legal G
  legal = ranged.legal

  -- the written sheet says the table that is left
  says : (decode (sheet_after s t ps out)).table ≡ P
  says =
      ap (λ u. (decode u).table) (after_is s t ps out P left)
      ∙ ap (λ (x : TableSheet). x.table) (table_says G d P (rw said.is (post_fits G d ps T)) ranged)

  -- a second notice on it, for any output, is one notice on the first sheet
  joined : (qs rs : List ℕ) → ((p : ℕ) → listed rs p ≡ either (listed ps p) (listed qs p)) → (room : ℕ)
      → post_answer s after qs room ≡ post_answer s t rs room
  joined qs rs joins room =
      let x = said.sheets in
      let tables : post G d qs P ≡ post G d rs T = ap (post G d qs) said.is ∙ post_joined G legal d ps qs T rs joins in
      ap (λ u. post_answer s u qs room) (after_is s t ps out P left)
      ∙ posting_checks s (sheet_with s P) qs room x.layout (table_said G d P) x.reads (posted_reads s t ps (length out) P left)
      (agrees_passes s _ (said_agrees s legal P))
      ∙ (rw (exist_joined (length (positions_body s)) ps qs rs said.exist joins, tables))
      ∙ sym (posting_checks s t rs room x.layout (decode t) x.reads x.readable (agrees_passes s (decode t) x.agreed))

  -- "gives the same sheet as .. both at once"
  pub notices_together : (qs : List ℕ) → SamePosting s (sheet_after s t ps out) qs t (ps ++ qs)
  notices_together qs = same_posting s after qs t (ps ++ qs) (joined qs (ps ++ qs) (listed_append ps qs))

  -- "posting the same notice twice is the same as once"
  pub notice_twice : SamePosting s (sheet_after s t ps out) ps t ps
  notice_twice = same_posting s after ps t ps (joined ps ps (λ p. sym (either_inside (listed ps p) (listed ps p) (λ l. l))))

  -- a later notice is accepted, whether or not a first word remains, if it would have been accepted at first
  pub second_accepted : (qs out' : List ℕ) → Accepts s t qs out' → (out'' : List ℕ) → length (sheet_after s t ps out) ≤ length out''
      → Accepts s (sheet_after s t ps out) qs out''
  second_accepted qs out' also out'' long =
      let (Q, e) = leaves s t qs out' also in
      let is = after_is s t ps out P left in
      accepts_so s after qs out'' (post G d qs P)
      (ap (λ u. post_answer s u qs (length out'')) is
      ∙ posted_again s t ps (length out) P left qs (length out'') (taken s t qs (length out') Q e).exist (rw (← is) long))

  -- a notice that names no other positions leaves it unaltered: so the same one again, and an empty one
  pub posted_unaltered : (qs : List ℕ) → ((p : ℕ) → listed qs p ≡ true → listed ps p ≡ true) → Unaltered s (sheet_after s t ps out) qs
  posted_unaltered qs fewer =
      let x = said.sheets in
      let is = after_is s t ps out P left in
      unaltered s after qs P is
      (λ out' long.
      joined qs ps (λ p. sym (either_inside (listed ps p) (listed qs p) (fewer p))) (length out')
      ∙ posting_is s t ps (length out') x.layout (decode t) x.reads x.readable (agrees_passes s (decode t) x.agreed) said.exist
      (subst (λ (R : Table). length (sheet_with s R) ≤ length out') said.is (rw is at long))
      ∙ ap accepted (sym said.is))

  -- "An empty notice leaves our own tables unaltered": posted ones
  pub empty_posted : Unaltered s (sheet_after s t ps out) []
  empty_posted = posted_unaltered [] (λ p l. absurd (not_both l (listed_nil p)))

  -- it takes nothing away exactly if the judging rule already allows the table with those positions unsafe
  pub posted_exact : ((decode (sheet_after s t ps out)).table ≡ (decode t).table) ↔ Allowed s ps (decode t).table
  posted_exact = (
    λ same. subst (λ (R : Table). Allowed s ps R) (sym says ∙ same) (posted_allowed s t ps (length out) P left),
    λ allowed. says ∙ said.is ∙ post_still G legal d ps T said.sheets.fits (sound_judged (closed_of s ps) d T allowed),
  )

-- "gives the same sheet as the other way round"
pub notices_swapped : (s t ps qs out out' : List ℕ) → Accepts s t ps out → Accepts s t qs out'
    → SamePosting s (sheet_after s t ps out) qs (sheet_after s t qs out') ps
notices_swapped s t ps qs out out' h also =
    same_posting s (sheet_after s t ps out) qs (sheet_after s t qs out') ps
    (λ room.
    joined s t ps out h qs (ps ++ qs) (listed_append ps qs) room
    ∙ sym (joined s t qs out' also ps (ps ++ qs) (λ p. listed_append ps qs p ∙ either_swap (listed ps p) (listed qs p)) room))

-- "An empty notice leaves our own tables unaltered": made ones
pub empty_made : (s : List ℕ) (masks ranks output : ℕ) (t : List ℕ) → make_answer s masks ranks output ≡ accepted (won t)
    → Unaltered s t []
unfolding table_sheet_of
empty_made s masks ranks output t made =
    let m = made_parts s masks ranks output (won t) made in
    let w = making_won s masks ranks output t made in
    let G = game_of s in
    let d = delay_of s in
    let legal = w.ranged.legal in
    let fits = ours_fits G d in
    unaltered s t [] (ours G d) w.sheet
    (λ out long.
    posting_is s t [] (length out) m.layout (table_said G d (ours G d)) m.reads (ap shape_answer w.sheet ∙ table_shape G d (ours G d) fits w.ranged)
    (agrees_passes s _ (said_agrees s legal (ours G d))) (exist_none _)
    (rw (posted_length s [] (ours G d) ∙ sym (table_length G d (ours G d) fits)) (rw w.sheet at long))
    ∙ ap accepted (post_empty G legal d (ours G d) fits (ours_judged G legal d)))

-- and of any table an empty notice takes something away exactly if the judging rule of W-202 does not allow that table
pub empty_exact : (s t out : List ℕ) → Accepts s t [] out
    → ((decode (sheet_after s t [] out)).table ≡ (decode t).table) ↔ (ruling (game_of s) (delay_of s) (decode t).table ≡ sound)
empty_exact s t out h =
    subst
    (λ (C : Game). ((decode (sheet_after s t [] out)).table ≡ (decode t).table) ↔ (ruling C (delay_of s) (decode t).table ≡ sound))
    (close_none (game_of s))
    (posted_exact s t [] out h)

-- any number of notices

-- all of them as one list
together : List (List ℕ) → List ℕ
together [] = []
together (ps ∷ pss) = together pss ++ ps

together_named : (pss : List (List ℕ)) (p : ℕ) → listed (together pss) p ≡ named pss p
unfolding named together
together_named [] p = listed_nil p ∙ sym (any_of_nil (λ ps. listed ps p))
together_named (ps ∷ pss) p =
    listed_append (together pss) ps p
    ∙ either_swap (listed (together pss) p) (listed ps p)
    ∙ ap (either (listed ps p)) (together_named pss p)
    ∙ sym (any_of_cons (λ qs. listed qs p) ps pss)

-- the last sheet is that of all notices posted at once
series_is : (s t : List ℕ) {pss : List (List ℕ)} {u : List ℕ} → Series s t pss u
    → u ≡ sheet_with s (post (game_of s) (delay_of s) (together pss) (decode t).table)
unfolding together
series_is s t (first ps out h) =
    let (P, e) = leaves s t ps out h in
    after_is s t ps out P e ∙ ap (sheet_with s) (taken s t ps (length out) P e).is
series_is s t (next {pss} {u} before ps out h) =
    let G = game_of s in
    let d = delay_of s in
    let R = post G d (together pss) (decode t).table in
    let (P, e) = leaves s u ps out h in
    let x = taken s u ps (length out) P e in
    let ranged = sheet_ranged s x.sheets.layout x.sheets.reads in
    let says : (decode u).table ≡ R =
    ap (λ v. (decode v).table) (series_is s t before)
    ∙ ap (λ (y : TableSheet). y.table) (table_says G d R (post_fits G d (together pss) (decode t).table) ranged) in
    after_is s u ps out P e
    ∙ ap (sheet_with s) (x.is ∙ ap (post G d ps) says ∙ post_post G ranged.legal d (together pss) ps (decode t).table)

-- "It mustn't matter who rang first": series of notices that name the same positions end with the same sheet, however they are ordered,
-- repeated and grouped
pub series_same : (s t : List ℕ) {pss qss : List (List ℕ)} {u v : List ℕ} → Series s t pss u → Series s t qss v
    → ((p : ℕ) → named pss p ≡ named qss p)
    → u ≡ v
series_same s t {pss} {qss} a b same =
    series_is s t a
    ∙ ap (sheet_with s)
    (post_same (game_of s) (delay_of s) (together pss) (together qss) (decode t).table
    (λ p. together_named pss p ∙ same p ∙ sym (together_named qss p)))
    ∙ sym (series_is s t b)
