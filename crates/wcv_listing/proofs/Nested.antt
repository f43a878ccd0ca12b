-- Types that nest in types, and items that nest in items.
use Rattle.std.proofs.Common.{◌≡◌, ℕ, zero, suc, Option, None, refl, sym, subst}
use Rattle.serde_json.specs.Data.{Data}
use Rattle.wcv_syntax.specs.Model.{Type_form, Entry}
use Rattle.wcv_listing.specs.Forms.{type_over, type_within}
use Rattle.wcv_listing.specs.Listing.{item_over, item_within}

pub none_within : (n : ℕ) (d : Data) → n ≡ 0 → None ≡ type_within n d
unfolding type_within
none_within zero d e = refl
none_within (suc n) d e = absurd (cc)

pub over_within : (n k : ℕ) (d : Data) (o : Option Type_form) → n ≡ suc k → o ≡ type_over (type_within k) d → o ≡ type_within n d
unfolding type_within
over_within n k d o e h = subst (λ m. o ≡ type_within m d) (sym e) h

pub no_item_within : (n : ℕ) (d : Data) → n ≡ 0 → None ≡ item_within n d
unfolding item_within
no_item_within zero d e = refl
no_item_within (suc n) d e = absurd (cc)

pub item_over_within : (n k : ℕ) (d : Data) (o : Option Entry) → n ≡ suc k → o ≡ item_over (item_within k) d → o ≡ item_within n d
unfolding item_within
item_over_within n k d o e h = subst (λ m. o ≡ item_within m d) (sym e) h
