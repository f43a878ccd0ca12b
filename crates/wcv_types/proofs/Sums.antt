-- One more part.
use Rattle.std.proofs.Common.{◌≡◌, ℕ, ◌+◌, min, max, refl, sym, ◌∙◌, ap, arith, List, [], ◌∷◌, ◌++◌, take, append-nil, append_assoc, Bool, true, false, ◌||◌, ◌&&◌}
use Rattle.wcv_core.specs.Names.{Name}
use Rattle.wcv_types.specs.Abi.{align_up, abi_align, abi_size, greatest_align, greatest_size, end_of, Mark, pointer, handle, borrow, contains, any_contains, kept_size}
use Rattle.wcv_types.specs.Facts.{is_plain, IsFactsOf}
use Rattle.wcv_types.specs.Flat.{joined, flat_cases}
use Rattle.wcv_types.specs.Measure.{size, sizes, depth, depths}
use Rattle.wcv_types.specs.Named.{is_named, are_named}
use Rattle.wcv_types.specs.Open.{open_join, open_words, open_flat, open_all, listed}
use Rattle.wcv_types.specs.Resources.{mentions, mentions_in}
use Rattle.wcv_types.specs.Sums.{IsExtentOf, IsSumOf}
use Rattle.wcv_types.specs.Tree.{Role, Parts}
use Rattle.wcv_types.specs.Unfold.{Type_tree, Slot, Slots, slot_tree, slot_parts}
use Rattle.wcv_types.specs.declared.facts.Facts.{Facts}
use Rattle.wcv_types.specs.declared.flat_type.FlatType.{FlatType}
use Rattle.wcv_types.specs.declared.sum.Extent.{Extent}
use Rattle.wcv_types.specs.declared.sum.Sum.{Sum}
use Rattle.wcv_types.proofs.Aligning.{behind-kept}
use Rattle.wcv_types.proofs.Cutting.{cut_before, cut_behind, joined_cut}

module _ (ts : List Type_tree) (s : Role × Slot) where
  abbrev t : Type_tree
  t = slot_tree ts s.1

  abbrev more : Slots → Parts Name Name
  more ss = slot_parts ts (ss ++ s ∷ [])

  pub sizes-push : (ss : Slots) → sizes (more ss) ≡ sizes (slot_parts ts ss) + size t
  sizes-push [] = omega arith
  sizes-push (x ∷ ss) = omega (arith, sizes-push ss)

  pub depths-push : (ss : Slots) → depths (more ss) ≡ max (depths (slot_parts ts ss)) (depth t)
  depths-push [] = omega arith
  depths-push (x ∷ ss) = omega (arith, depths-push ss)

  and_assoc : (a b c : Bool) → (a && (b && c)) ≡ ((a && b) && c)
  and_assoc true b c = refl
  and_assoc false b c = refl

  and_true : (a : Bool) → (a && true) ≡ a
  and_true true = refl
  and_true false = refl

  or_assoc : (a b c : Bool) → (a || (b || c)) ≡ ((a || b) || c)
  or_assoc true b c = refl
  or_assoc false b c = refl

  or_false : (a : Bool) → (a || false) ≡ a
  or_false true = refl
  or_false false = refl

  named-push : (ss : Slots) → are_named [] (more ss) ≡ (are_named [] (slot_parts ts ss) && is_named [] t)
  named-push [] = and_true (is_named [] t)
  named-push (x ∷ ss) = ap (λ (b : Bool). is_named [] (slot_tree ts x.1) && b) (named-push ss) ∙ and_assoc (is_named [] (slot_tree ts x.1)) (are_named [] (slot_parts ts ss)) (is_named [] t)

  contains-push : (m : Mark) (ss : Slots) → any_contains m (more ss) ≡ (any_contains m (slot_parts ts ss) || contains m t)
  contains-push m [] = or_false (contains m t)
  contains-push m (x ∷ ss) = ap (λ (b : Bool). contains m (slot_tree ts x.1) || b) (contains-push m ss) ∙ or_assoc (contains m (slot_tree ts x.1)) (any_contains m (slot_parts ts ss)) (contains m t)

  pub mentions-push : (ss : Slots) → mentions_in (more ss) ≡ (mentions_in (slot_parts ts ss) || mentions t)
  mentions-push [] = or_false (mentions t)
  mentions-push (x ∷ ss) = ap (λ (b : Bool). mentions (slot_tree ts x.1) || b) (mentions-push ss) ∙ or_assoc (mentions (slot_tree ts x.1)) (mentions_in (slot_parts ts ss)) (mentions t)

  all-push : (ss : Slots) → open_all (more ss) ≡ open_all (slot_parts ts ss) ++ open_flat t
  all-push [] = append-nil (open_flat t)
  all-push (x ∷ ss) = ap (λ (ys : List FlatType). open_flat (slot_tree ts x.1) ++ ys) (all-push ss) ∙ sym (append_assoc (open_flat (slot_tree ts x.1)) (open_all (slot_parts ts ss)) (open_flat t))

  cases-push : (before : List FlatType) (ss : Slots) → flat_cases open_words before (more ss) ≡ joined open_join (flat_cases open_words before (slot_parts ts ss)) (open_flat t)
  cases-push before [] = refl
  cases-push before (x ∷ ss) = cases-push (joined open_join before (open_flat (slot_tree ts x.1))) ss

  -- as many as are kept
  all-kept : (xs ys zs : List FlatType) (ss : Slots) → xs ≡ take 17 (open_all (slot_parts ts ss)) → ys ≡ take 17 (open_flat t) → zs ≡ take 17 (xs ++ ys) → zs ≡ take 17 (open_all (more ss))
  all-kept xs ys zs ss h i e =
      e ∙ (λ j. take 17 (h j ++ i j)) ∙ cut_before 17 (open_all (slot_parts ts ss)) (take 17 (open_flat t)) ∙ cut_behind 17 (open_all (slot_parts ts ss)) (open_flat t) ∙ ap (take 17) (sym (all-push ss))

  cases-kept : (xs ys zs : List FlatType) (ss : Slots) → xs ≡ take 17 (flat_cases open_words [] (slot_parts ts ss)) → ys ≡ take 17 (open_flat t) → zs ≡ joined open_join xs ys → zs ≡ take 17 (flat_cases open_words [] (more ss))
  cases-kept xs ys zs ss h i e =
      e ∙ (λ j. joined open_join (h j) (i j)) ∙ sym (joined_cut open_join 17 (flat_cases open_words [] (slot_parts ts ss)) (open_flat t)) ∙ ap (take 17) (sym (cases-push [] ss))

  align-push : (p : ℕ) (ss : Slots) → greatest_align p (more ss) ≡ max (greatest_align p (slot_parts ts ss)) (abi_align p t)
  align-push p [] = omega arith
  align-push p (x ∷ ss) = omega (arith, align-push p ss)

  greatest-push : (p : ℕ) (ss : Slots) → greatest_size p (more ss) ≡ max (greatest_size p (slot_parts ts ss)) (abi_size p t)
  greatest-push p [] = omega arith
  greatest-push p (x ∷ ss) = omega (arith, greatest-push p ss)

  end-push : (p at : ℕ) (ss : Slots) → end_of p at (more ss) ≡ align_up (abi_align p t) (end_of p at (slot_parts ts ss)) + abi_size p t
  end-push p at [] = refl
  end-push p at (x ∷ ss) = end-push p (align_up (abi_align p (slot_tree ts x.1)) at + abi_size p (slot_tree ts x.1)) ss

  extent-push : (p : ℕ) (e e' : Extent) (n a : ℕ) (ss : Slots) → IsExtentOf p e (slot_parts ts ss) → n ≡ kept_size (abi_size p t) → a ≡ abi_align p t →
      e' ≡ record { end = min (align_up a e.end + n) 18446744073709551615; align = max e.align a; greatest = max e.greatest n } → IsExtentOf p e' (more ss)
  extent-push p e e' n a ss h i j k =
      let up : ℕ → ℕ = align_up (abi_align p t) in
      record {
        end = ap (λ (x : Extent). x.end) k ∙
            (λ l. min (align_up (j l) (h.end l) + i l) 18446744073709551615) ∙ behind-kept (abi_align p t) (end_of p 0 (slot_parts ts ss)) (abi_size p t) ∙
            ap kept_size (sym (end-push p 0 ss));
        align = ap (λ (x : Extent). x.align) k ∙ (λ l. max (h.align l) (j l)) ∙ sym (align-push p ss);
        greatest = omega (arith, ap (λ (x : Extent). x.greatest) k, h.greatest, i, greatest-push p ss);
      }

pub sum_push : (old new : Sum) (x : Facts) (ts : List Type_tree) (ss : Slots) (s : Role × Slot) → IsSumOf old (slot_parts ts ss) → IsFactsOf x (slot_tree ts s.1) → is_plain (slot_tree ts s.1) ≡ is_named [] (slot_tree ts s.1) →
    new.size ≡ min (old.size + x.info.size) 4294967295 → new.depth ≡ max old.depth x.info.depth → new.plain ≡ (old.plain && x.plain) → new.refers ≡ (old.refers || x.refers) →
    new.contains_ptr ≡ (old.contains_ptr || x.abi.contains_ptr) → new.contains_handle ≡ (old.contains_handle || x.abi.contains_handle) → new.contains_borrow ≡ (old.contains_borrow || x.abi.contains_borrow) →
    new.narrow ≡ record { end = min (align_up x.abi.align32 old.narrow.end + x.abi.size32) 18446744073709551615; align = max old.narrow.align x.abi.align32; greatest = max old.narrow.greatest x.abi.size32 } →
    new.wide ≡ record { end = min (align_up x.abi.align64 old.wide.end + x.abi.size64) 18446744073709551615; align = max old.wide.align x.abi.align64; greatest = max old.wide.greatest x.abi.size64 } →
    listed new.all ≡ take 17 (listed old.all ++ listed x.flat) → listed new.cases ≡ joined open_join (listed old.cases) (listed x.flat) →
    IsSumOf new (slot_parts ts (ss ++ s ∷ []))
sum_push old new x ts ss s h f v e1 e2 e3 e0 e4 e5 e6 e7 e8 e9 e10 = record {
  size = omega (arith, e1, h.size, f.info.size, sizes-push ts s ss);
  depth = omega (arith, e2, h.depth, f.info.depth, depths-push ts s ss);
  plain = e3 ∙ (λ j. h.plain j && (f.plain ∙ v) j) ∙ sym (named-push ts s ss);
  refers = e0 ∙ (λ j. h.refers j || f.refers j) ∙ sym (mentions-push ts s ss);
  contains_ptr = e4 ∙ (λ j. h.contains_ptr j || f.abi.contains_ptr j) ∙ sym (contains-push ts s pointer ss);
  contains_handle = e5 ∙ (λ j. h.contains_handle j || f.abi.contains_handle j) ∙ sym (contains-push ts s handle ss);
  contains_borrow = e6 ∙ (λ j. h.contains_borrow j || f.abi.contains_borrow j) ∙ sym (contains-push ts s borrow ss);
  narrow = extent-push ts s 4 old.narrow new.narrow x.abi.size32 x.abi.align32 ss h.narrow f.abi.size32 f.abi.align32 e7;
  wide = extent-push ts s 8 old.wide new.wide x.abi.size64 x.abi.align64 ss h.wide f.abi.size64 f.abi.align64 e8;
  all = all-kept ts s (listed old.all) (listed x.flat) (listed new.all) ss h.all f.flat e9;
  cases = cases-kept ts s (listed old.cases) (listed x.flat) (listed new.cases) ss h.cases f.flat e10;
}
