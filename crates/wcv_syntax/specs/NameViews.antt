-- What contracts see of names.
use Rattle.std.specs.Prelude.{Option}
use Rattle.std.specs.Option.{option_map, option_copied}
use Rattle.std.specs.Borrow.{Bor}
use Rattle.wcv_syntax.specs.ExternName.{Text, Access, call, get, set, Form, item, constructor, method, static, interface}
use Rattle.wcv_syntax.specs.declared.name_kind.ComponentNameKind.{ComponentNameKind}
use Rattle.wcv_syntax.specs.declared.name_kind.ComponentNameKind.TheVariants as kind
use Rattle.wcv_syntax.specs.declared.name_kind.Use.{Use}
use Rattle.wcv_syntax.specs.declared.name_kind.Use.TheVariants as use_of

abbrev pub use_view : Use → Access
use_view use_of.Call = call
use_view use_of.Get = get
use_view use_of.Set = set

-- the form with its parts
abbrev pub kind_view : ComponentNameKind → Form
kind_view (kind.Label l) = item call l.now
kind_view (kind.Getter l) = item get l.now
kind_view (kind.Setter l) = item set l.now
kind_view (kind.Constructor l) = constructor l.now
kind_view (kind.Method r f) = method call r.now f.now
kind_view (kind.MethodGetter r f) = method get r.now f.now
kind_view (kind.MethodSetter r f) = method set r.now f.now
kind_view (kind.Static r f) = static call r.now f.now
kind_view (kind.StaticGetter r f) = static get r.now f.now
kind_view (kind.StaticSetter r f) = static set r.now f.now
kind_view (kind.Interface i) = interface i.namespace.now i.package.now i.interface.now (option_copied i.version)

-- two parts that are lent
abbrev pub parts_view : Option (Bor Text × Bor Text) → Option (Text × Text)
parts_view o = option_map (λ p. (p.0.now, p.1.now)) o

-- two parts, and the use of what they name
abbrev pub member_view : Use × Bor Text × Bor Text → Access × Text × Text
member_view m = (use_view m.0, m.1.now, m.2.now)
