-- Codes of rights lie below 2^31 and read back.
use Rattle.std.specs.Prelude.{◌≡◌, ℕ, ◌+◌, ◌-◌, ◌^◌, ◌<◌, Some, None, Option, ◌==◌, refl}
use Rattle.std.proofs.Common.{sym, ap, ◌∙◌, inl, inr, arith}
use denote.Struct.Props.{props}
use Rattle.std.specs.Option.{option_map}
use Rattle.std.proofs.lemmas.Bool.{ne_eqb, eqb-true, cases_Bool}
use Rattle.kinds.specs.declared.right.Minutes.{Minutes}
use Rattle.kinds.specs.declared.right.Right.{Right}
use Rattle.kinds.specs.declared.right.Right.TheVariants.{Withdrawn, Watch, Operate}
use Rattle.kinds.specs.Models.{Lawful}
use Rattle.kinds.specs.Ranges.{between}
use Rattle.kinds.specs.Rights.{minutes_of, right_code, right_of, right_model}
use Rattle.kinds.specs.RangeFacts.{provided_in, provided_some}

pub minutes_in : (m : Minutes) → minutes_of m.count ≡ Some m
minutes_in m = provided_in _ (between 1 60 m.count) (hlevel props) m.ok

right_reads : (v : Right) → right_of (right_code v) ≡ Some v
right_reads Withdrawn = refl
right_reads Watch = refl
right_reads (Operate m) =
    let low = m.ok.0 in
    let e : (m.count + 1) - 1 ≡ m.count = omega arith in
    rw (ne_eqb (m.count + 1) 0 (λ h. omega arith), ne_eqb (m.count + 1) 1 (λ h. omega arith), e, minutes_in m)

some_coded : (c : ℕ) (r v : Right) → right_code r ≡ c → Some r ≡ Some v → right_code v ≡ c
some_coded c r v code e = let f : r ≡ v = cc in sym (ap right_code f) ∙ code

operate_coded : (c : ℕ) (o : Option Minutes) → minutes_of (c - 1) ≡ o → (v : Right) → option_map Operate o ≡ Some v → right_code v ≡ c
operate_coded c None is v e = let z : ◌≡◌ {A = ℕ} 0 1 = cc in absurd (omega arith)
operate_coded c (Some m) is v e =
    let p = provided_some _ (between 1 60 (c - 1)) m is in
    let n : c - 1 ≡ m.count = ap (λ (k : Minutes). k.count) p.1 in
    some_coded c (Operate m) v (omega (arith, p.0.0)) e

right_coded : (c : ℕ) (v : Right) → right_of c ≡ Some v → right_code v ≡ c
right_coded c v e =
    elim (cases_Bool (c == 0)) [
      | inl z ↦ some_coded c Withdrawn v (sym (eqb-true c 0 z)) (rw z at e)
      | inr z ↦ elim (cases_Bool (c == 1)) [
        | inl y ↦ some_coded c Watch v (sym (eqb-true c 1 y)) (rw (z, y) at e)
        | inr y ↦ operate_coded c (minutes_of (c - 1)) refl v (rw (z, y) at e)
      ]
    ]

right_below : (v : Right) → right_code v < 2 ^ 31
right_below Withdrawn = omega arith
right_below Watch = omega arith
right_below (Operate m) = omega (arith, m.ok.1)

pub right_lawful : Lawful right_model
right_lawful = record { below = right_below; reads = right_reads; coded = right_coded }
