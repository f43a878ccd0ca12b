-- Heaps that are named by words.
use Rattle.std.proofs.Common.{◌≡◌, List, [], ◌∷◌, true, refl, sym, ◌∙◌, ap, inl, inr}
use Rattle.wcv_core.specs.CoreMatching.{name_matches}
use Rattle.wcv_core.specs.CoreWords.{above, Among, Climbs}
use Rattle.wcv_core.specs.declared.core_types.AbstractHeap.{AbstractHeap}
use Rattle.wcv_core.specs.declared.core_types.AbstractHeap.TheVariants as name

-- the way from one up to another
to_func : (a : AbstractHeap) → name_matches a name.Func ≡ true → (xs : List AbstractHeap) × Climbs a xs name.Func
to_func name.Func e = ([], refl)
to_func name.NoFunc e = (name.Func ∷ [], (inl refl, refl))
to_func _ e = cc

to_nofunc : (a : AbstractHeap) → name_matches a name.NoFunc ≡ true → (xs : List AbstractHeap) × Climbs a xs name.NoFunc
to_nofunc name.NoFunc e = ([], refl)
to_nofunc _ e = cc

to_extern : (a : AbstractHeap) → name_matches a name.Extern ≡ true → (xs : List AbstractHeap) × Climbs a xs name.Extern
to_extern name.Extern e = ([], refl)
to_extern name.NoExtern e = (name.Extern ∷ [], (inl refl, refl))
to_extern _ e = cc

to_noextern : (a : AbstractHeap) → name_matches a name.NoExtern ≡ true → (xs : List AbstractHeap) × Climbs a xs name.NoExtern
to_noextern name.NoExtern e = ([], refl)
to_noextern _ e = cc

to_any : (a : AbstractHeap) → name_matches a name.Any ≡ true → (xs : List AbstractHeap) × Climbs a xs name.Any
to_any name.Any e = ([], refl)
to_any name.Eq e = (name.Any ∷ [], (inl refl, refl))
to_any name.I31 e = (name.Eq ∷ name.Any ∷ [], (inl refl, (inl refl, refl)))
to_any name.Struct e = (name.Eq ∷ name.Any ∷ [], (inl refl, (inl refl, refl)))
to_any name.Array e = (name.Eq ∷ name.Any ∷ [], (inl refl, (inl refl, refl)))
to_any name.None e = (name.I31 ∷ name.Eq ∷ name.Any ∷ [], (inl refl, (inl refl, (inl refl, refl))))
to_any _ e = cc

to_eq : (a : AbstractHeap) → name_matches a name.Eq ≡ true → (xs : List AbstractHeap) × Climbs a xs name.Eq
to_eq name.Eq e = ([], refl)
to_eq name.I31 e = (name.Eq ∷ [], (inl refl, refl))
to_eq name.Struct e = (name.Eq ∷ [], (inl refl, refl))
to_eq name.Array e = (name.Eq ∷ [], (inl refl, refl))
to_eq name.None e = (name.I31 ∷ name.Eq ∷ [], (inl refl, (inl refl, refl)))
to_eq _ e = cc

to_i31 : (a : AbstractHeap) → name_matches a name.I31 ≡ true → (xs : List AbstractHeap) × Climbs a xs name.I31
to_i31 name.I31 e = ([], refl)
to_i31 name.None e = (name.I31 ∷ [], (inl refl, refl))
to_i31 _ e = cc

to_struct : (a : AbstractHeap) → name_matches a name.Struct ≡ true → (xs : List AbstractHeap) × Climbs a xs name.Struct
to_struct name.Struct e = ([], refl)
to_struct name.None e = (name.Struct ∷ [], (inr (inl refl), refl))
to_struct _ e = cc

to_array : (a : AbstractHeap) → name_matches a name.Array ≡ true → (xs : List AbstractHeap) × Climbs a xs name.Array
to_array name.Array e = ([], refl)
to_array name.None e = (name.Array ∷ [], (inr (inr (inl refl)), refl))
to_array _ e = cc

to_none : (a : AbstractHeap) → name_matches a name.None ≡ true → (xs : List AbstractHeap) × Climbs a xs name.None
to_none name.None e = ([], refl)
to_none _ e = cc

to_exn : (a : AbstractHeap) → name_matches a name.Exn ≡ true → (xs : List AbstractHeap) × Climbs a xs name.Exn
to_exn name.Exn e = ([], refl)
to_exn name.NoExn e = (name.Exn ∷ [], (inl refl, refl))
to_exn _ e = cc

to_noexn : (a : AbstractHeap) → name_matches a name.NoExn ≡ true → (xs : List AbstractHeap) × Climbs a xs name.NoExn
to_noexn name.NoExn e = ([], refl)
to_noexn _ e = cc

pub climbs : (a b : AbstractHeap) → name_matches a b ≡ true → (xs : List AbstractHeap) × Climbs a xs b
climbs a name.Func e = to_func a e
climbs a name.NoFunc e = to_nofunc a e
climbs a name.Extern e = to_extern a e
climbs a name.NoExtern e = to_noextern a e
climbs a name.Any e = to_any a e
climbs a name.Eq e = to_eq a e
climbs a name.I31 e = to_i31 a e
climbs a name.Struct e = to_struct a e
climbs a name.Array e = to_array a e
climbs a name.None e = to_none a e
climbs a name.Exn e = to_exn a e
climbs a name.NoExn e = to_noexn a e

itself : (a : AbstractHeap) → name_matches a a ≡ true
itself name.Func = refl
itself name.NoFunc = refl
itself name.Extern = refl
itself name.NoExtern = refl
itself name.Any = refl
itself name.Eq = refl
itself name.I31 = refl
itself name.Struct = refl
itself name.Array = refl
itself name.None = refl
itself name.Exn = refl
itself name.NoExn = refl

nofunc_func : (b : AbstractHeap) → name_matches name.Func b ≡ true → name_matches name.NoFunc b ≡ true
nofunc_func name.Func e = refl
nofunc_func name.NoFunc e = refl
nofunc_func _ e = e

noextern_extern : (b : AbstractHeap) → name_matches name.Extern b ≡ true → name_matches name.NoExtern b ≡ true
noextern_extern name.Extern e = refl
noextern_extern name.NoExtern e = refl
noextern_extern _ e = e

eq_any : (b : AbstractHeap) → name_matches name.Any b ≡ true → name_matches name.Eq b ≡ true
eq_any name.Any e = refl
eq_any name.Eq e = refl
eq_any _ e = e

i31_eq : (b : AbstractHeap) → name_matches name.Eq b ≡ true → name_matches name.I31 b ≡ true
i31_eq name.Any e = refl
i31_eq name.Eq e = refl
i31_eq name.I31 e = refl
i31_eq _ e = e

struct_eq : (b : AbstractHeap) → name_matches name.Eq b ≡ true → name_matches name.Struct b ≡ true
struct_eq name.Any e = refl
struct_eq name.Eq e = refl
struct_eq name.Struct e = refl
struct_eq _ e = e

array_eq : (b : AbstractHeap) → name_matches name.Eq b ≡ true → name_matches name.Array b ≡ true
array_eq name.Any e = refl
array_eq name.Eq e = refl
array_eq name.Array e = refl
array_eq _ e = e

none_i31 : (b : AbstractHeap) → name_matches name.I31 b ≡ true → name_matches name.None b ≡ true
none_i31 name.Any e = refl
none_i31 name.Eq e = refl
none_i31 name.I31 e = refl
none_i31 name.Struct e = refl
none_i31 name.Array e = refl
none_i31 name.None e = refl
none_i31 _ e = e

none_struct : (b : AbstractHeap) → name_matches name.Struct b ≡ true → name_matches name.None b ≡ true
none_struct name.Any e = refl
none_struct name.Eq e = refl
none_struct name.I31 e = refl
none_struct name.Struct e = refl
none_struct name.Array e = refl
none_struct name.None e = refl
none_struct _ e = e

none_array : (b : AbstractHeap) → name_matches name.Array b ≡ true → name_matches name.None b ≡ true
none_array name.Any e = refl
none_array name.Eq e = refl
none_array name.I31 e = refl
none_array name.Struct e = refl
none_array name.Array e = refl
none_array name.None e = refl
none_array _ e = e

noexn_exn : (b : AbstractHeap) → name_matches name.Exn b ≡ true → name_matches name.NoExn b ≡ true
noexn_exn name.Exn e = refl
noexn_exn name.NoExn e = refl
noexn_exn _ e = e

step : (a x b : AbstractHeap) → Among x (above a) → name_matches x b ≡ true → name_matches a b ≡ true
step name.Func x b m e = elim m [ ]
step name.NoFunc x b (inl q) e = nofunc_func b (ap (λ (y : AbstractHeap). name_matches y b) (sym q) ∙ e)
step name.NoFunc x b (inr m) e = elim m [ ]
step name.Extern x b m e = elim m [ ]
step name.NoExtern x b (inl q) e = noextern_extern b (ap (λ (y : AbstractHeap). name_matches y b) (sym q) ∙ e)
step name.NoExtern x b (inr m) e = elim m [ ]
step name.Any x b m e = elim m [ ]
step name.Eq x b (inl q) e = eq_any b (ap (λ (y : AbstractHeap). name_matches y b) (sym q) ∙ e)
step name.Eq x b (inr m) e = elim m [ ]
step name.I31 x b (inl q) e = i31_eq b (ap (λ (y : AbstractHeap). name_matches y b) (sym q) ∙ e)
step name.I31 x b (inr m) e = elim m [ ]
step name.Struct x b (inl q) e = struct_eq b (ap (λ (y : AbstractHeap). name_matches y b) (sym q) ∙ e)
step name.Struct x b (inr m) e = elim m [ ]
step name.Array x b (inl q) e = array_eq b (ap (λ (y : AbstractHeap). name_matches y b) (sym q) ∙ e)
step name.Array x b (inr m) e = elim m [ ]
step name.None x b (inl q) e = none_i31 b (ap (λ (y : AbstractHeap). name_matches y b) (sym q) ∙ e)
step name.None x b (inr (inl q)) e = none_struct b (ap (λ (y : AbstractHeap). name_matches y b) (sym q) ∙ e)
step name.None x b (inr (inr (inl q))) e = none_array b (ap (λ (y : AbstractHeap). name_matches y b) (sym q) ∙ e)
step name.None x b (inr (inr (inr m))) e = elim m [ ]
step name.Exn x b m e = elim m [ ]
step name.NoExn x b (inl q) e = noexn_exn b (ap (λ (y : AbstractHeap). name_matches y b) (sym q) ∙ e)
step name.NoExn x b (inr m) e = elim m [ ]

pub matches : (a b : AbstractHeap) (xs : List AbstractHeap) → Climbs a xs b → name_matches a b ≡ true
matches a b [] c = ap (λ (y : AbstractHeap). name_matches a y) (sym c) ∙ itself a
matches a b (x ∷ xs) c = step a x b c.0 (matches x b xs c.1)
