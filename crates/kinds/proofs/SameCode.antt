-- In a lawful kind, values with equal codes are equal.
use Rattle.std.proofs.Common.{◌≡◌, Some, sym, ap, ◌∙◌}
use Rattle.kinds.specs.Models.{KindModel, Lawful}

pub same_code : {K : Type 0} (m : KindModel K) → Lawful m → (x y : K) → m.code_of x ≡ m.code_of y → x ≡ y
same_code m lawful x y e =
    let f : Some x ≡ Some y = sym (lawful.reads x) ∙ ap m.value_of e ∙ lawful.reads y in
    cc
