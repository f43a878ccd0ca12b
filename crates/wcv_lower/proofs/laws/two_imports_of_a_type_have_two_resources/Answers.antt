use Rattle.std.proofs.Common.{refl}
use Rattle.wcv_lower.proofs.laws.two_imports_of_a_type_have_two_resources.Goals as goal

pub returns : goal.returns
returns c = record { types = λ fs r f a b x d e. rw (d, e) refl; imports = λ fs r f a b x d e. rw (d, e) refl; imported = λ fs r f a b x d e. rw (d, e) refl }
