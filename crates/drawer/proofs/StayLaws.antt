-- Of any buffer whatever: a call that is not refused keeps a drawer a drawer.
use mathlib.Core.Path.{◌≡◌, refl, sym, ap, ◌∙◌, subst}
use mathlib.Core.Bool.{Bool, true, false}
use mathlib.Core.List.{List, [], ◌∷◌, ◌++◌}
use Prim.Native.Nat.{ℕ, ◌+◌, ◌*◌, ◌%◌, ◌<◌}
use native.Mathlib.Omega.{arith}
use native.Mathlib.Decide.{ℕ_discrete}
use lib.ListN.{length, get_or}
use Rattle.words.specs.Words.{word_at, put_at}
use Rattle.records.specs.Record.{is_damaged}
use Rattle.drawer.specs.Drawer.{chain_of, is_drawer}
use Rattle.drawer.specs.Search.{is_stop, records, record_of}
use Rattle.drawer.specs.Calls.{width, new_in, put_on, gone_from, forget_on, Left}
use Rattle.drawer.proofs.Links.{Links, link_after}
use Rattle.drawer.proofs.SeekLaws.{Stopped, stopped_at}
use Rattle.drawer.proofs.DrawerLaws.{parts, head_low, search_stops}
use Rattle.drawer.proofs.SurgeryLaws.{changed}
use Rattle.drawer.proofs.ViewLaws.{View, view_of, drawer_of}
use Rattle.drawer.proofs.KeptLaws.{over_view, new_view, gone_view}
use Rattle.drawer.proofs.LookLaws.{found_at, absent_at}
use Rattle.drawer.proofs.CaseLaws.{put_bad, put_full, put_new, put_over, forget_bad, forget_none, forget_some}

free_head : (s : List ℕ) (c : ℕ → List ℕ) → View width s c → (word_at s 16 ≡ 0 → ⊥) → (d : List ℕ) × (c 16 ≡ word_at s 16 ∷ d)
free_head s c v some = go (c 16) (v.spread.links 16 (omega arith))
  where
    go : (l : List ℕ) → Links width (word_at s) 16 l → (d : List ℕ) × (l ≡ word_at s 16 ∷ d)
    go [] z = absurd (some z)
    go (r ∷ d) z = (d, ap (λ (i : ℕ). i ∷ d) (sym z.0))

stop_in : (s : List ℕ) → is_drawer width s ≡ true → (x : ℕ) (stop : ℕ → Bool) → Stopped width stop (word_at s) (records width s) (records width s) (x % 16) (chain_of width (word_at s) (records width s) (x % 16))
stop_in s r x stop = search_stops width s (parts width s r) stop (x % 16) (omega (arith, head_low x))

refused : (l : Left) (k : ℕ) (s : List ℕ) → 0 < k → l ≡ record { refusal = k; drawer = s } → l.refusal ≡ 0 → ⊥
refused l k s some e z = omega (arith, z, ap (λ (m : Left). m.refusal) e)

-- ---- a save of words, and a forgetting
pub put_keeps : (s : List ℕ) (x : ℕ) (ws : List ℕ) → x < 18446744073709551616 → length ws ≡ 39 → ((i : ℕ) → get_or ws i 0 < 4294967296)
    → is_damaged (λ i. get_or ws i 0) 0 ≡ false → (put_on s x ws).refusal ≡ 0 → is_drawer width (put_on s x ws).drawer ≡ true
put_keeps s x ws fits long small sound z = go (is_drawer width s) refl (ℕ_discrete (record_of width s x) 0) (ℕ_discrete (word_at s 16) 0)
  where
    go : (d : Bool) → is_drawer width s ≡ d → Dec (record_of width s x ≡ 0) → Dec (word_at s 16 ≡ 0) → is_drawer width (put_on s x ws).drawer ≡ true
    go false r f g = absurd (refused (put_on s x ws) 13 s (omega arith) (put_bad s x ws r) z)
    go true r (no f) g =
        let v = view_of width s r in
        subst (λ (l : Left). is_drawer width l.drawer ≡ true) (sym (put_over s x ws r f))
        (drawer_of width (put_at (width * record_of width s x + 3) ws s) (chain_of width (word_at s) (records width s))
        (over_view s (chain_of width (word_at s) (records width s)) v ws (x % 16) (record_of width s x) (head_low x)
        (found_at width s (chain_of width (word_at s) (records width s)) v x (omega arith)).0 long small sound))
    go true r (yes f) (yes g) = absurd (refused (put_on s x ws) 15 s (omega arith) (put_full s x ws r f g) z)
    go true r (yes f) (no g) =
        let v = view_of width s r in
        let sp = stop_in s r x (is_stop width (word_at s) true x) in
        let d = free_head s (chain_of width (word_at s) (records width s)) v g in
        subst (λ (l : Left). is_drawer width l.drawer ≡ true)
        (sym (put_new s x ws r f g ∙ ap (λ (p : ℕ). record { refusal = 0; drawer = new_in s x ws (word_at s 16) p }) sp.at))
        (drawer_of width (new_in s x ws (word_at s 16) (link_after width (x % 16) sp.front))
        (changed (changed (chain_of width (word_at s) (records width s)) (x % 16) (sp.front ++ (word_at s 16 ∷ sp.rest))) 16 d.0)
        (new_view s (chain_of width (word_at s) (records width s)) v x ws (x % 16) (word_at s 16) sp.front sp.rest d.0 (head_low x) refl sp.cut d.1
        (absent_at width s (chain_of width (word_at s) (records width s)) v x f) fits long small sound))

pub forget_keeps : (s : List ℕ) (x : ℕ) → (forget_on s x).refusal ≡ 0 → is_drawer width (forget_on s x).drawer ≡ true
forget_keeps s x z = go (is_drawer width s) refl (ℕ_discrete (record_of width s x) 0)
  where
    go : (d : Bool) → is_drawer width s ≡ d → Dec (record_of width s x ≡ 0) → is_drawer width (forget_on s x).drawer ≡ true
    go false r f = absurd (refused (forget_on s x) 13 s (omega arith) (forget_bad s x r) z)
    go true r (yes f) = absurd (refused (forget_on s x) 14 s (omega arith) (forget_none s x r f) z)
    go true r (no f) =
        let v = view_of width s r in
        let sp = stop_in s r x (is_stop width (word_at s) false x) in
        let b = stopped_at width (is_stop width (word_at s) false x) (word_at s) (records width s) (records width s) (x % 16) (chain_of width (word_at s) (records width s) (x % 16)) (v.spread.links (x % 16) (omega (arith, head_low x))) sp (omega arith) in
        subst (λ (l : Left). is_drawer width l.drawer ≡ true) (sym (forget_some s x r f ∙ ap (λ (p : ℕ). record { refusal = 0; drawer = gone_from s (record_of width s x) p }) sp.at))
        (drawer_of width (gone_from s (record_of width s x) (link_after width (x % 16) sp.front))
        (changed (changed (chain_of width (word_at s) (records width s)) (x % 16) (sp.front ++ b.0)) 16 (record_of width s x ∷ chain_of width (word_at s) (records width s) 16))
        (gone_view s (chain_of width (word_at s) (records width s)) v (x % 16) (record_of width s x) sp.front b.0 (head_low x) (sp.cut ∙ ap (λ (l : List ℕ). sp.front ++ l) b.1)))

-- ---- what a call that is not refused leaves
pub with_put : (s d : List ℕ) (x : ℕ) (ws : List ℕ) → x < 18446744073709551616 → length ws ≡ 39 → ((i : ℕ) → get_or ws i 0 < 4294967296)
    → is_damaged (λ i. get_or ws i 0) 0 ≡ false → record { refusal = 0; drawer = d } ≡ put_on s x ws → is_drawer width d ≡ true
with_put s d x ws fits long small sound e =
    subst (λ (l : List ℕ). is_drawer width l ≡ true) (ap (λ (l : Left). l.drawer) (sym e))
    (put_keeps s x ws fits long small sound (ap (λ (l : Left). l.refusal) (sym e)))

pub with_forgotten : (s d : List ℕ) (x : ℕ) → record { refusal = 0; drawer = d } ≡ forget_on s x → is_drawer width d ≡ true
with_forgotten s d x e = subst (λ (l : List ℕ). is_drawer width l ≡ true) (ap (λ (l : Left). l.drawer) (sym e)) (forget_keeps s x (ap (λ (l : Left). l.refusal) (sym e)))
