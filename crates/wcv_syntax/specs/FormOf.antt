-- The form of a name, where it has one.
use Rattle.std.specs.Prelude.{ℕ, [], ◌∷◌, ◌==◌, ◌&&◌, Option, Some, None, if◌then◌else◌}
use Rattle.std.specs.Option.{option_map}
use Rattle.wcv_core.specs.Label.{is_label}
use Rattle.wcv_syntax.specs.ExternName.{Text, Access, call, get, set, Form, item, constructor, method, static, interface, access_mark, constructor_mark, method_mark, static_mark, dot, slash, colon, at_sign, is_formed}

-- what follows the mark in a text that begins with it
abbrev pub behind : Text → Text → Option Text
behind [] t = Some t
behind (b ∷ bs) [] = None
behind (b ∷ bs) (c ∷ cs) = if c == b then behind bs cs else None

abbrev pub put_before : ℕ → Text × Text → Text × Text
put_before c p = (c ∷ p.0, p.1)

-- what stands before the first of these bytes, and what stands after it
abbrev pub around : ℕ → Text → Option (Text × Text)
around b [] = None
around b (c ∷ cs) = if c == b then Some ([], cs) else option_map (put_before c) (around b cs)

-- a part that is there, or the other
abbrev pub choose : {X Y : Type 0} → Option X → (X → Y) → Y → Y
choose (Some x) f y = f x
choose None f y = y

-- a text that begins with the mark is read by what follows it, another one as a whole
abbrev pub marked : {Y : Type 0} → Text → (Text → Y) → (Text → Y) → Text → Y
marked m f g t = choose (behind m t) f (g t)

-- how it is used, and the text behind the mark of that
abbrev pub used : Text → Access × Text
used = marked (access_mark get) (λ u. (get, u)) (marked (access_mark set) (λ u. (set, u)) (λ u. (call, u)))

abbrev pub if_formed : Form → Option Form
if_formed f = if is_formed f then Some f else None

abbrev pub item_in : Text → Option Form
item_in t = if_formed (item (used t).0 (used t).1)

abbrev pub constructor_in : Text → Option Form
constructor_in t = if_formed (constructor t)

abbrev pub labels_of : Access → Text × Text → Option (Access × Text × Text)
labels_of a p = if is_label p.0 && is_label p.1 then Some (a, p.0, p.1) else None

-- how it is used, and a resource and its function around a dot
abbrev pub member_parts : Text → Option (Access × Text × Text)
member_parts t = choose (around dot (used t).1) (labels_of (used t).0) None

abbrev pub member_in : (Access → Text → Text → Form) → Text → Option Form
member_in k t = option_map (λ m. k m.0 m.1 m.2) (member_parts t)

-- an interface, and maybe its version
abbrev pub versioned : Text → Text × Option Text
versioned u = choose (around at_sign u) (λ p. (p.0, Some p.1)) (u, None)

abbrev pub interface_in : Text → Text → Option Form
interface_in n u = choose (around slash u) (λ p. if_formed (interface n p.0 (versioned p.1).0 (versioned p.1).1)) None

-- a text with a colon is no item
abbrev pub unmarked : Text → Option Form
unmarked t = choose (around colon t) (λ p. interface_in p.0 p.1) (item_in t)

abbrev pub form_of : Text → Option Form
form_of = marked constructor_mark constructor_in (marked method_mark (member_in method) (marked static_mark (member_in static) unmarked))
