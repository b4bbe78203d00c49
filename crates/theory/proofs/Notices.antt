-- Several notices (specs/Closing.antt): what two sets of safe positions leave of a table, one after the other, is what their common part
-- leaves of it at once; so the order of notices, their repeats and their grouping do not matter. For any table. Assumes nothing.
use Prim.Native.Nat.{ℕ, zero, suc, ◌<◌}
use mathlib.Core.Path.{◌≡◌, refl, sym, ◌∙◌, ap, fun_ext}
use mathlib.Core.Bool.{Bool, true, false, not}
use mathlib.Core.Logic.{⊎_elim}
use mathlib.Core.List.{List, [], ◌∷◌, ◌++◌}
use native.Mathlib.Omega.{arith}
use lib.Dec.{eqb}
use lib.ListN.{length, get_or}
use borrow.Author.Tests.{eqb-true, eq-eqb}
use Rattle.theory.specs.Fold.{both, either}
use Rattle.theory.specs.Game.{Game, Legal}
use Rattle.theory.specs.Table.{Table, TableFits, Judged, Inside}
use Rattle.theory.specs.Closing.{with_safe, listed, open_in, close, within, post}
use Rattle.theory.proofs.Fold.{not_both, both_true, both_left, both_right, both_first, either_left, either_right, either_cases, any_of_nil, any_of_cons, any_of_append}
use Rattle.theory.proofs.Tables.{inside_self, inside_trans}
use Rattle.theory.proofs.Within.{within_fits, within_inside, within_judged, within_largest, table_same}
use Rattle.theory.proofs.Closing.{fits_safe, legal_safe, judged_both, judged_more, post_fits, post_inside, post_largest}

-- the law: s is what s₁ and s₂ have in common
module _ (G : Game) (legal : Legal G) (d : ℕ) (T : Table) (s₁ s₂ s : ℕ → Bool) (common : (p : ℕ) → s p ≡ both (s₁ p) (s₂ p)) where
  abbrev once : Table
  once = within (with_safe G s₁) d T

  abbrev twice : Table
  twice = within (with_safe G s₂) d once

  abbrev joint : Table
  joint = within (with_safe G s) d T

  legal_in : (safe : ℕ → Bool) → Legal (with_safe G safe)
  legal_in safe = legal_safe G G.safe safe legal

  fits_in : (safe safe' : ℕ → Bool) (T' : Table) → TableFits (with_safe G safe') d (within (with_safe G safe) d T')
  fits_in safe safe' T' = fits_safe G safe safe' d (within (with_safe G safe) d T') (within_fits (with_safe G safe) d T')

  twice_joint : Inside twice joint
  twice_joint =
      let inner = within_inside (with_safe G s₂) d once in
      within_largest (with_safe G s) d T (legal_in s) twice (fits_in s₂ s once)
      (judged_both G s₁ s₂ s (λ p e₁ e₂. common p ∙ both_true _ _ e₁ e₂) d once twice inner
      (within_judged (with_safe G s₁) d T (legal_in s₁))
      (within_judged (with_safe G s₂) d once (legal_in s₂)))
      (inside_trans twice once T inner (within_inside (with_safe G s₁) d T))

  joint_judged : (safe : ℕ → Bool) → ((p : ℕ) → s p ≡ true → safe p ≡ true) → Judged (with_safe G safe) d joint
  joint_judged safe more = judged_more G s safe more d joint (within_judged (with_safe G s) d T (legal_in s))

  joint_twice : Inside joint twice
  joint_twice =
      within_largest (with_safe G s₂) d once (legal_in s₂) joint (fits_in s s₂ T)
      (joint_judged s₂ (λ p e. both_right (s₁ p) _ (sym (common p) ∙ e)))
      (within_largest (with_safe G s₁) d T (legal_in s₁) joint (fits_in s s₁ T)
      (joint_judged s₁ (λ p e. both_left _ _ (sym (common p) ∙ e)))
      (within_inside (with_safe G s) d T))

  pub within_within : within (with_safe G s₂) d (within (with_safe G s₁) d T) ≡ within (with_safe G s) d T
  within_within =
      table_same (with_safe G s) d twice joint (fits_in s₂ s once) (fits_in s s T) twice_joint joint_twice

-- what notices list

pub listed_nil : (p : ℕ) → listed [] p ≡ false
unfolding listed
listed_nil p = any_of_nil (eqb p)

pub listed_cons : (x : ℕ) (ps : List ℕ) (p : ℕ) → listed (x ∷ ps) p ≡ either (eqb p x) (listed ps p)
unfolding listed
listed_cons x ps p = any_of_cons (eqb p) x ps

-- an entry is listed
pub entry_listed : (ps : List ℕ) (i : ℕ) → i < length ps → listed ps (get_or ps i 0) ≡ true
entry_listed [] i h = absurd (omega arith)
entry_listed (x ∷ ps) zero h = rw (listed_cons x ps x) (either_left _ _ (eq-eqb x x refl))
entry_listed (x ∷ ps) (suc i) h = rw (listed_cons x ps (get_or ps i 0)) (either_right _ _ (entry_listed ps i (omega arith)))

-- and what is listed is an entry
pub listed_entry : (ps : List ℕ) (p : ℕ) → listed ps p ≡ true → (i : ℕ) × (i < length ps) × (get_or ps i 0 ≡ p)
listed_entry [] p e = absurd (not_both e (listed_nil p))
listed_entry (x ∷ ps) p e =
    ⊎_elim
    (λ (h : eqb p x ≡ true). (0, omega arith, sym (eqb-true p x h)))
    (λ (h : listed ps p ≡ true). let (i, l, q) = listed_entry ps p h in (suc i, omega arith, q))
    (either_cases _ _ (rw (listed_cons x ps p) at e))

pub listed_append : (ps qs : List ℕ) (p : ℕ) → listed (ps ++ qs) p ≡ either (listed ps p) (listed qs p)
unfolding listed
listed_append ps qs p = any_of_append (eqb p) ps qs

-- lists that name the same positions are the same notice: repeats and order do not matter
pub close_same : (G : Game) (ps qs : List ℕ) → ((p : ℕ) → listed ps p ≡ listed qs p) → close G ps ≡ close G qs
unfolding close open_in
close_same G ps qs same = ap (with_safe G) (fun_ext (λ p. ap (λ b. both (G.safe p) (not b)) (same p)))

pub post_same : (G : Game) (d : ℕ) (ps qs : List ℕ) (T : Table) → ((p : ℕ) → listed ps p ≡ listed qs p) → post G d ps T ≡ post G d qs T
unfolding post
post_same G d ps qs T same = ap (λ C. within C d T) (close_same G ps qs same)

-- open for two notices is open for both
open_either : (safe a b : Bool) → both safe (not (either a b)) ≡ both (both safe (not a)) (both safe (not b))
unfolding both either
open_either true true b = refl
open_either true false b = refl
open_either false a b = refl

-- two notices are the one that lists what either does
module _ (G : Game) (legal : Legal G) (d : ℕ) (ps qs : List ℕ) (T : Table) where
  pub post_joined : (rs : List ℕ) → ((p : ℕ) → listed rs p ≡ either (listed ps p) (listed qs p)) → post G d qs (post G d ps T) ≡ post G d rs T
  unfolding post close open_in
  post_joined rs joins =
      within_within G legal d T (open_in G ps) (open_in G qs) (open_in G rs)
      (λ p. ap (λ b. both (G.safe p) (not b)) (joins p) ∙ open_either (G.safe p) (listed ps p) (listed qs p))

  -- "as both at once"
  pub post_post : post G d qs (post G d ps T) ≡ post G d (ps ++ qs) T
  post_post = post_joined (ps ++ qs) (listed_append ps qs)

-- a table that the judging rule allows with those positions unsafe loses nothing
pub post_still : (G : Game) → Legal G → (d : ℕ) (ps : List ℕ) (T : Table) → TableFits G d T → Judged (close G ps) d T → post G d ps T ≡ T
post_still G legal d ps T fits judged =
    table_same G d (post G d ps T) T (post_fits G d ps T) fits (post_inside G d ps T)
    (post_largest G d ps T legal T fits judged (inside_self T))

-- an empty notice closes nothing, so it "leaves" any table that the judging rule allows "unaltered"
pub close_none : (G : Game) → close G [] ≡ G
unfolding close open_in
close_none G = ap (with_safe G) (fun_ext (λ p. both_first (G.safe p) _ (ap not (listed_nil p))))

pub post_empty : (G : Game) → Legal G → (d : ℕ) (T : Table) → TableFits G d T → Judged G d T → post G d [] T ≡ T
post_empty G legal d T fits judged = post_still G legal d [] T fits (rw (close_none G) judged)
