-- What the checks use of the section of an accepted beam, for any materials and parameters within their bounds.
use Rattle.std.specs.Prelude.{◌*◌, ◌≤◌, ◌≡◌}
use Rattle.material.specs.Bounds.{UsableConcrete, UsableSteel, WholeUpTo}
use Rattle.parameters.specs.Bounds.{UsableParameters}
use Rattle.member.specs.Accepted.{LoadWithin}
use Rattle.section.specs.declared.Section.{Section}
use Rattle.section.specs.Section.{b, h, h₀, a', s, c, l₀, flange, G, S, S', L, E, D, M, Mq, Vd}

pub record Bounded (x : Section) : Type 0 where
  pub b_least : 100 ≤ b x
  pub b_most : b x ≤ 1000
  pub h_most : h x ≤ 2000
  pub h₀_least : 1 ≤ h₀ x
  pub h₀_most : h₀ x ≤ 2000
  pub a'-most : a' x ≤ h₀ x
  pub flange_most : flange x ≤ 3000000
  pub G_most : G x ≤ 5000000
  pub S_least : 1 ≤ S x
  pub S_most : S x ≤ 800000
  pub S'-most : S' x ≤ 800000
  pub no_compression : S' x ≡ 0 → a' x ≡ 0
  pub L_most : L x ≤ 10000
  pub E_most : E x ≤ 50 * D x
  pub D_least : 1 ≤ D x
  pub D_most : D x ≤ 2000
  pub s_least : 50 ≤ s x
  pub s_most : s x ≤ 400
  pub c_most : c x ≤ 200
  pub l₀_most : l₀ x ≤ 12000
  pub slender : l₀ x ≤ 30 * h₀ x
  pub M_most : M x ≤ 100000000
  pub Mq_least : 1 ≤ Mq x
  pub Mq_most : Mq x ≤ 100000000
  pub Vd_most : Vd x ≤ 100000000
  pub ratio : 5 * S x ≤ 2 * b x * h₀ x
  pub concrete : UsableConcrete x.concrete
  pub steel : UsableSteel x.steel
  pub fyv : WholeUpTo 600 x.fyv
  pub load_most : LoadWithin 12000 x.load
  pub parameters : UsableParameters x.parameters
