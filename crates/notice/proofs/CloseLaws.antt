-- The code of src/closing.rt: which positions a notice lists, whether they exist, and the P body in which they are unsafe; and that this
-- body's game is the closed one. Assumes nothing.
use Prim.Native.Nat.{ℕ, ◌≤◌, ◌<◌}
use mathlib.Core.Path.{◌≡◌, refl, sym, ◌∙◌, ap, fun_ext}
use mathlib.Core.Bool.{Bool, true, false, not, cond}
use mathlib.Core.List.{List, [], ◌∷◌}
use mathlib.Core.Logic.{⊎_elim}
use native.Mathlib.Omega.{arith}
use lib.Dec.{eqb}
use Rattle.std.specs.List.{list_any}
use lib.ListN.{length, get_or}
use borrow.Author.Rules.{rules}
use borrow.Author.Tests.{ne_eqb, lt-ltb, le-ltb}
use Rattle.theory.specs.Fold.{both, either}
use Rattle.theory.specs.Buffer.{over}
use Rattle.theory.specs.Closing.{listed, open_in, close}
use Rattle.theory.proofs.Fold.{bool, below?, same?, both_none, both_false, both_second}
use Rattle.theory.proofs.Fold.{length_tabulate, get_d_tabulate}
use Rattle.theory.proofs.Notices.{listed_nil, listed_cons}
use Rattle.theory.proofs.Filling.{filled, filled_none, filled_more, filled_over}
use Rattle.std.specs.Prelude.{None}
use Rattle.sheet.specs.Kinds.{position, kind_of, kind_at, is_controller, is_safe, controller_at, safe_at}
use Rattle.sheet.specs.code.Arrays.{view_of}
use Rattle.notice.specs.code.Closed.{closed_byte, closed_at, closed_body}

-- a position is looked for, and check 23

pub any_listed : (ps : List ℕ) (q : ℕ) → list_any (eqb q) ps ≡ listed ps q
unfolding either
any_listed [] q = sym (listed_nil q)
any_listed (x ∷ ps) q = rw (any_listed ps q) (sym (listed_cons x ps q))

-- one byte

module _ (b : ℕ) where
  pub close_unsafe : (b ≡ 0 → ⊥) → (b ≡ 2 → ⊥) → b ≡ closed_byte b
  unfolding closed_byte
  close_unsafe n m = rw (ne_eqb b 0 n, ne_eqb b 2 m)

-- the body

module _ (p ps to : List ℕ) where
  pub body_done : (q : ℕ) → q ≤ length p → length p ≤ q → filled (closed_at p ps) q to ≡ over (closed_body p ps) to
  unfolding closed_body
  body_done q a b = let s : q ≡ length p = omega arith in ap (λ n. filled (closed_at p ps) n to) s ∙ filled_over (closed_at p ps) to (length p)

  -- a byte of it
  module _ (q : ℕ) {b : ℕ} (e : b ≡ get_or p q 0) where
    pub at_listed : {r : Bool} {c : ℕ} → r ≡ listed ps q → r ≡ true → c ≡ closed_byte b → c ≡ closed_at p ps q
    unfolding closed_at
    at_listed f t g = g ∙ rw (sym f ∙ t, e)

    pub at_other : {r : Bool} → r ≡ listed ps q → r ≡ false → b ≡ closed_at p ps q
    unfolding closed_at
    at_other f t = e ∙ rw (sym f ∙ t)

pub ruleset closing_all = (rules, filled_none, filled_more, at_listed, at_other, body_done)

-- the kind of a closed position

module _ (b : ℕ) where
  kept_side : is_controller (kind_of (closed_byte b)) ≡ is_controller (kind_of b)
  unfolding kind_of is_controller closed_byte
  kept_side =
      ⊎_elim
      (λ (e : b ≡ 0). rw e)
      (λ n.
      ⊎_elim
      (λ (e : b ≡ 2). rw e)
      (λ m. ap (λ x. is_controller (kind_of x)) (sym (unfold closed_byte in (close_unsafe b n m))))
      (same? b 2))
      (same? b 0)

  now_unsafe : is_safe (kind_of (closed_byte b)) ≡ false
  unfolding kind_of is_safe closed_byte
  now_unsafe =
      ⊎_elim
      (λ (e : b ≡ 0). rw e)
      (λ n.
      ⊎_elim
      (λ (e : b ≡ 2). rw e)
      (λ m.
      ap (λ x. is_safe (kind_of x)) (sym (unfold closed_byte in (close_unsafe b n m)))
      ∙ rw (ne_eqb b 0 n, ne_eqb b 2 m) (others (eqb b 1) (eqb b 3)))
      (same? b 2))
      (same? b 0)
    where
      others : (x y : Bool) → is_safe (cond x (position true false) (cond y (position false false) None)) ≡ false
      others true y = refl
      others false true = refl
      others false false = refl

invalid_unsafe : is_safe None ≡ false
unfolding is_safe
invalid_unsafe = refl

module _ (p ps : List ℕ) where
  pub body_length : length (closed_body p ps) ≡ length p
  unfolding closed_body
  body_length = length_tabulate (closed_at p ps) 0 (length p)

  body_at : (q : ℕ) → q < length p → get_or (closed_body p ps) q 0 ≡ closed_at p ps q
  unfolding closed_body
  body_at q h = get_d_tabulate (closed_at p ps) (length p) q 0 h

  kind_at_lem : (q : ℕ) → q < length p → kind_at (closed_body p ps) q ≡ kind_of (closed_at p ps q)
  unfolding kind_at
  kind_at_lem q h = rw (body_length, lt-ltb q (length p) h, body_at q h)

  kind_was : (q : ℕ) → q < length p → kind_at p q ≡ kind_of (get_or p q 0)
  unfolding kind_at
  kind_was q h = rw (lt-ltb q (length p) h)

  kind_out : (q : ℕ) → length p ≤ q → kind_at (closed_body p ps) q ≡ kind_at p q
  unfolding kind_at
  kind_out q h = rw (body_length, le-ltb q (length p) h)

  kind_none : (q : ℕ) → length p ≤ q → kind_at p q ≡ None
  unfolding kind_at
  kind_none q h = rw (le-ltb q (length p) h)

  same_side : (q : ℕ) → controller_at (closed_body p ps) q ≡ controller_at p q
  unfolding controller_at closed_at
  same_side q =
      ⊎_elim
      (λ (h : q < length p).
      ap is_controller (kind_at_lem q h)
      ∙ ⊎_elim
      (λ (l : listed ps q ≡ true). rw l (kept_side (get_or p q 0)))
      (λ (l : listed ps q ≡ false). rw l)
      (bool (listed ps q))
      ∙ ap is_controller (sym (kind_was q h)))
      (λ (h : length p ≤ q). ap is_controller (kind_out q h))
      (below? q (length p))

  open_safe : (q : ℕ) → safe_at (closed_body p ps) q ≡ both (safe_at p q) (not (listed ps q))
  unfolding safe_at closed_at
  open_safe q =
      ⊎_elim
      (λ (h : q < length p).
      ap is_safe (kind_at_lem q h)
      ∙ ⊎_elim
      (λ (l : listed ps q ≡ true). rw l (now_unsafe (get_or p q 0) ∙ sym (both_false (is_safe (kind_at p q)) false refl)))
      (λ (l : listed ps q ≡ false). rw l (ap is_safe (sym (kind_was q h)) ∙ sym (both_first (is_safe (kind_at p q)))))
      (bool (listed ps q)))
      (λ (h : length p ≤ q).
      let z : is_safe (kind_at p q) ≡ false = ap is_safe (kind_none q h) ∙ invalid_unsafe in
      ap is_safe (kind_out q h) ∙ z ∙ sym (both_none (is_safe (kind_at p q)) (not (listed ps q)) z))
      (below? q (length p))
    where
      both_first : (b : Bool) → both b true ≡ b
      both_first true = both_second true true refl
      both_first false = both_none false true refl

  -- the game of the closed body
  pub view_closed : (g : List (List ℕ)) (u f : List ℕ) (s a : ℕ)
      → view_of (closed_body p ps) g u f s a ≡ close (view_of p g u f s a) ps
  unfolding view_of close open_in
  view_closed g u f s a = rw (body_length, fun_ext same_side, fun_ext open_safe)
