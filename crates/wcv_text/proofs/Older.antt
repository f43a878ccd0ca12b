-- Older nodes, and the lines of newer ones.
use Rattle.std.proofs.Common.{◌≡◌, ℕ, suc, eqb, ◌<◌, ◌≤◌, List, [], ◌∷◌, ◌++◌, refl, ◌∙◌, ap, arith, Bool, true, false, ◌||◌, Some}
use Rattle.std.proofs.lemmas.Bool.{eqb-true}
use Rattle.wcv_core.specs.Names.{number}
use Rattle.wcv_types.specs.Identity.{Identity, of_node, same_identity}
use Rattle.wcv_types.specs.Positions.{is_there}
use Rattle.wcv_types.specs.Standing.{HasIdentity, identity_of}
use Rattle.wcv_types.specs.Text.{has_line}
use Rattle.wcv_types.specs.Unfold.{rank}
use Rattle.wcv_types.specs.declared.ids.Part.{Part}
use Rattle.wcv_types.specs.declared.ids.Part.TheVariants as p
use Rattle.wcv_text.specs.Nodes.{NoneFrom}
use Rattle.wcv_text.specs.Numbers.{so_far}
use Rattle.wcv_text.specs.declared.numbers.Numbers.{Numbers}

-- a line for another leaves it open whether there is one
there_other : {X : Type 0} (eq : X → X → Bool) (x y : X) (ys : List X) → eq x y ≡ false → is_there eq x (ys ++ y ∷ []) ≡ is_there eq x ys
there_other eq x y [] h = ap (λ (b : Bool). b || false) h
there_other eq x y (z ∷ ys) h = ap (λ (b : Bool). eq x z || b) (there_other eq x y ys h)

numbers_apart : (k i : ℕ) → suc i ≤ k → eqb k i ≡ false
numbers_apart k i h = go (eqb k i) refl
  where
    go : (b : Bool) → eqb k i ≡ b → eqb k i ≡ false
    go true e =
        let s : k ≡ i = eqb-true k i e in
        absurd (omega (arith, s, h))
    go false e = e

-- a node from the rank of a type on is not the type
apart : (q : Part) (k : ℕ) → HasIdentity q → rank q ≤ k → same_identity (of_node (number k)) (identity_of q) ≡ false
apart (p.Resource r) k s h = refl
apart (p.Core i) k s h = absurd s
apart (p.Defined i) k s h = numbers_apart k i.index h
apart (p.Func i) k s h = numbers_apart k i.index h
apart (p.Instance i) k s h = numbers_apart k i.index h
apart (p.Component i) k s h = numbers_apart k i.index h
apart (p.Module i) k s h = numbers_apart k i.index h
apart (p.CoreInstance i) k s h = numbers_apart k i.index h

-- the own line of a type
pub older_own : (q : Part) (old new : Numbers) → HasIdentity q → (so_far new []).nodes ≡ (so_far old []).nodes ++ identity_of q ∷ [] → NoneFrom (rank q) old new
older_own q old new s added k h =
    ap (λ (is : List Identity). is_there same_identity (of_node (number k)) is) added ∙
    there_other same_identity (of_node (number k)) (identity_of q) (so_far old []).nodes (apart q k s h)

-- one after another
pub older_then : (b c d : ℕ) (old mid new : Numbers) → b ≤ d → c ≤ d → NoneFrom b old mid → NoneFrom c mid new → NoneFrom d old new
older_then b c d old mid new l m first second k h = second k (omega (arith, h, m)) ∙ first k (omega (arith, h, l))

-- a type has no line of its own after the lines of those before it
pub still_none : (q r : Part) (old new : Numbers) → rank q < rank r → NoneFrom (rank q) old new → has_line (so_far old []) (Some (identity_of r)) ≡ false → has_line (so_far new []) (Some (identity_of r)) ≡ false
still_none q (p.Resource i) old new l older h = absurd (omega (arith, l))
still_none q (p.Core i) old new l older h = absurd (omega (arith, l))
still_none q (p.Defined i) old new l older h = older i.index (omega (arith, l)) ∙ h
still_none q (p.Func i) old new l older h = older i.index (omega (arith, l)) ∙ h
still_none q (p.Instance i) old new l older h = older i.index (omega (arith, l)) ∙ h
still_none q (p.Component i) old new l older h = older i.index (omega (arith, l)) ∙ h
still_none q (p.Module i) old new l older h = older i.index (omega (arith, l)) ∙ h
still_none q (p.CoreInstance i) old new l older h = older i.index (omega (arith, l)) ∙ h
