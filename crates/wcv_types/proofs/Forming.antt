-- What is known of a defined type, from what is known of its parts.
use Rattle.std.proofs.Common.{◌≡◌, ℕ, suc, refl, sym, ◌∙◌, ap, arith, List, [], ◌∷◌, length, take, false}
use Rattle.std.specs.Prelude.{Option}
use Rattle.std.proofs.lemmas.Bool.{false≢true}
use Rattle.wcv_core.specs.Names.{Name}
use Rattle.wcv_types.specs.Abi.{former_size, former_align, former_has, greatest_align, greatest_size, end_of, count, pointer, handle, borrow, kept_size}
use Rattle.wcv_types.specs.Facts.{is_plain, IsFactsOf}
use Rattle.wcv_types.specs.Flat.{former_flat, flat_cases}
use Rattle.wcv_types.specs.Measure.{former_weight, weigh, deepen, sizes, first_size, depths, first_depth}
use Rattle.wcv_types.specs.Named.{named_by_itself, is_named}
use Rattle.wcv_types.specs.Open.{open_words, open_all, listed}
use Rattle.wcv_types.specs.Sums.{HasAlign, HasParts, IsExtentOf, IsSumOf}
use Rattle.wcv_types.specs.Tree.{Former, named, variant_of, own_of, borrow_of, flags_of, enum_of, func, Role, Parts, node, sort, is_value}
use Rattle.wcv_types.specs.Unfold.{Type_tree, capped, former_of, value_parts, value_slots, handles, defined_slots, head_of, slot_parts}
use Rattle.wcv_types.specs.declared.arena.Node.TheVariants as n
use Rattle.wcv_types.specs.declared.facts.Facts.{Facts}
use Rattle.wcv_types.specs.declared.shapes.ComponentDefinedType.{ComponentDefinedType}
use Rattle.wcv_types.specs.declared.shapes.ComponentDefinedType.TheVariants as d
use Rattle.wcv_types.specs.declared.shapes.ComponentValType.{ComponentValType}
use Rattle.wcv_types.specs.declared.sum.Extent.{Extent}
use Rattle.wcv_types.specs.declared.sum.Sum.{Sum}
use Rattle.wcv_types.proofs.Aligning.{align-positive, greatest-positive, former-kept}

-- ## Alignments

pub facts_align : (f : Facts) (t : Type_tree) → IsFactsOf f t → HasAlign f
facts_align f t h = record { narrow = omega (arith, h.abi.align32, align-positive 4 (omega arith) t); wide = omega (arith, h.abi.align64, align-positive 8 (omega arith) t) }

pub sum_align : (s : Sum) (ps : Parts Name Name) → IsSumOf s ps → HasParts s
sum_align s ps h = record { narrow = omega (arith, h.narrow.align, greatest-positive 4 (omega arith) ps); wide = omega (arith, h.wide.align, greatest-positive 8 (omega arith) ps) }

-- ## Size and depth

weigh-capped : (k : Former) (f n : ℕ) → capped (weigh (former_weight k) 0 (capped n)) ≡ capped (weigh (former_weight k) f n)
weigh-capped (named q) f n = refl
weigh-capped own_of f n = refl
weigh-capped borrow_of f n = refl
weigh-capped (flags_of ls) f n = refl
weigh-capped (enum_of ls) f n = refl
weigh-capped x f n = omega arith

-- a value type does not state its size
deepen-former : (k : Former) (f n : ℕ) → weigh (former_weight k) f n ≡ deepen (former_weight k) f n
deepen-former (named q) f n = refl
deepen-former x f n = refl

-- ## How many parts

count-slots : (ts : List Type_tree) (ps : List (Role × Option ComponentValType)) → count (slot_parts ts (value_slots ps)) ≡ length ps
count-slots ts [] = refl
count-slots ts (p ∷ ps) = ap suc (count-slots ts ps)

pub slots_of_values : (s : ComponentDefinedType) → handles s ≡ false → defined_slots s ≡ value_slots (value_parts s)
slots_of_values (d.Own r) h = absurd (false≢true (sym h))
slots_of_values (d.Borrow r) h = absurd (false≢true (sym h))
slots_of_values x h = refl

-- the number of parts counts for variants alone
size-counted : (p : ℕ) (ts : List Type_tree) (s : ComponentDefinedType) (e a g : ℕ) → former_size p (former_of s) e a g (length (value_parts s)) ≡ former_size p (former_of s) e a g (count (slot_parts ts (defined_slots s)))
size-counted p ts (d.Variant cs) e a g = ap (λ (n : ℕ). former_size p variant_of e a g n) (sym (count-slots ts (value_parts (d.Variant cs))))
size-counted p ts x e a g = refl

align-counted : (p : ℕ) (ts : List Type_tree) (s : ComponentDefinedType) (a : ℕ) → former_align p (former_of s) a (length (value_parts s)) ≡ former_align p (former_of s) a (count (slot_parts ts (defined_slots s)))
align-counted p ts (d.Variant cs) a = ap (λ (n : ℕ). former_align p variant_of a n) (sym (count-slots ts (value_parts (d.Variant cs))))
align-counted p ts x a = refl

-- ## All that is known

module _ (s : ComponentDefinedType) (x : Sum) (ts : List Type_tree) (k : ℕ) (h : IsSumOf x (slot_parts ts (defined_slots s))) where
  abbrev ps : Parts Name Name
  ps = slot_parts ts (defined_slots s)

  size_known : (p n : ℕ) (e : Extent) → IsExtentOf p e ps → n ≡ kept_size (former_size p (former_of s) e.end e.align e.greatest (length (value_parts s))) →
      n ≡ kept_size (former_size p (former_of s) (end_of p 0 ps) (greatest_align p ps) (greatest_size p ps) (count ps))
  size_known p n e i j =
      j ∙ (λ l. kept_size (former_size p (former_of s) (i.end l) (i.align l) (i.greatest l) (length (value_parts s)))) ∙
      former-kept p (former_of s) (end_of p 0 ps) (greatest_align p ps) (greatest_size p ps) (length (value_parts s)) ∙
      ap kept_size (size-counted p ts s (end_of p 0 ps) (greatest_align p ps) (greatest_size p ps))

  align_known : (p n : ℕ) (e : Extent) → IsExtentOf p e ps → n ≡ former_align p (former_of s) e.align (length (value_parts s)) → n ≡ former_align p (former_of s) (greatest_align p ps) (count ps)
  align_known p n e i j = j ∙ ap (λ (a : ℕ). former_align p (former_of s) a (length (value_parts s))) i.align ∙ align-counted p ts s (greatest_align p ps)

  pub facts_are : (f : Facts) → f.info.size ≡ capped (weigh (former_weight (former_of s)) 0 x.size) → f.info.depth ≡ capped (weigh (former_weight (former_of s)) 0 x.depth) →
      f.abi.size32 ≡ kept_size (former_size 4 (former_of s) x.narrow.end x.narrow.align x.narrow.greatest (length (value_parts s))) → f.abi.align32 ≡ former_align 4 (former_of s) x.narrow.align (length (value_parts s)) →
      f.abi.size64 ≡ kept_size (former_size 8 (former_of s) x.wide.end x.wide.align x.wide.greatest (length (value_parts s))) → f.abi.align64 ≡ former_align 8 (former_of s) x.wide.align (length (value_parts s)) →
      f.abi.contains_ptr ≡ former_has pointer (former_of s) x.contains_ptr → f.abi.contains_handle ≡ former_has handle (former_of s) x.contains_handle → f.abi.contains_borrow ≡ former_has borrow (former_of s) x.contains_borrow →
      f.plain ≡ named_by_itself (former_of s) false x.plain → f.refers ≡ x.refers → listed f.flat ≡ take 17 (former_flat open_words (former_of s) (open_all ps) (flat_cases open_words [] ps)) →
      IsFactsOf f (node (head_of k (n.Defined s)) (slot_parts ts (defined_slots s)))
  facts_are f i1 i2 a1 a2 a3 a4 m1 m2 m3 q w o = record {
    info = record {
      size = i1 ∙ ap (λ (m : ℕ). capped (weigh (former_weight (former_of s)) 0 m)) h.size ∙ weigh-capped (former_of s) (first_size ps) (sizes ps);
      depth = i2 ∙ ap (λ (m : ℕ). capped (weigh (former_weight (former_of s)) 0 m)) h.depth ∙ weigh-capped (former_of s) (first_depth ps) (depths ps) ∙
          ap capped (deepen-former (former_of s) (first_depth ps) (depths ps));
    };
    abi = record {
      size32 = size_known 4 f.abi.size32 x.narrow h.narrow a1;
      align32 = align_known 4 f.abi.align32 x.narrow h.narrow a2;
      size64 = size_known 8 f.abi.size64 x.wide h.wide a3;
      align64 = align_known 8 f.abi.align64 x.wide h.wide a4;
      contains_ptr = m1 ∙ ap (former_has pointer (former_of s)) h.contains_ptr;
      contains_handle = m2 ∙ ap (former_has handle (former_of s)) h.contains_handle;
      contains_borrow = m3 ∙ ap (former_has borrow (former_of s)) h.contains_borrow;
    };
    plain = q ∙ ap (named_by_itself (former_of s) false) h.plain;
    refers = w ∙ h.refers;
    flat = o;
  }

-- ## Value types

pub plain_value : (t : Type_tree) → sort t ≡ is_value → is_plain t ≡ is_named [] t
plain_value (node (func i b) ps) e = cc
plain_value (node h ps) e = refl
