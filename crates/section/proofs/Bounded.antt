-- The section of an accepted beam keeps the bounds that the checks use.
use Prim.Native.Nat.{◌-◌}
use mathlib.Core.Path.{◌≡◌}
use native.Mathlib.Omega.{arith}
use lib.ListN.{length}
use Rattle.quantity.proofs.Product.{product_most}
use Rattle.code_tables.specs.Bars.{area_of}
use Rattle.code_tables.proofs.Bars.{link_area_most}
use Rattle.material.proofs.Materials.{usable_concrete, usable_steel, usable_links}
use Rattle.parameters.proofs.Usable.{usable_parameters}
use Rattle.member.specs.Member.{Beam}
use Rattle.bars.specs.Sums.{area}
use Rattle.member.specs.Accepted.{AcceptedBeam}
use Rattle.bars.proofs.Sums.{sums, some_bars, bars_least, area_least_by_bars}
use Rattle.member.proofs.Accepted.{depth_least, load_within_more}
use Rattle.section.specs.Section.{section_of}
use Rattle.section.specs.Bounded.{Bounded}

no_area : (x : Beam) → AcceptedBeam x → area x.compression ≡ 0 → length x.compression ≡ 0
no_area x a e = omega (arith, bars_least x.compression a.compression, area_least_by_bars x.compression a.compression)

pub bounded : (x : Beam) → AcceptedBeam x → Bounded (section_of x)
unfolding section_of
bounded x a =
    let below = sums x.tension a.tension a.tension_bars in
    let some = some_bars x.tension a.tension a.tension_some in
    let above = sums x.compression a.compression a.compression_bars in
    let web = product_most x.b x.h 1000 2000 (omega arith) in
    let slab = product_most (x.bf - x.b) x.hf 2900 1000 (omega arith) in
    record {
      b_least = a.b_least;
      b_most = a.b_most;
      h_most = a.h_most;
      h₀_least = omega (arith, depth_least x a);
      h₀_most = omega arith;
      a'-most = omega arith;
      flange_most = omega arith;
      G_most = omega arith;
      S_least = some.S_least;
      S_most = omega arith;
      S'-most = omega arith;
      no_compression = λ e. a.no_compression (no_area x a e);
      L_most = omega (arith, product_most x.legs (area_of x.link) 8 1131 (a.legs_most, link_area_most x.link a.link.most));
      E_most = below.E_most;
      D_least = some.D_least;
      D_most = below.D_most;
      s_least = a.s_least;
      s_most = a.s_most;
      c_most = a.c_most;
      l₀_most = a.l₀_most;
      slender = a.slender;
      M_most = a.M_most;
      Mq_least = a.Mq_least;
      Mq_most = a.Mq_most;
      Vd_most = a.Vd_most;
      ratio = a.ratio;
      concrete = usable_concrete x.concrete a.concrete;
      steel = usable_steel x.steel a.steel;
      fyv = usable_links x.linkSteel a.linkSteel;
      load_most = load_within_more x.load x.l₀ 12000 a.load_within a.l₀_most;
      parameters = usable_parameters x.concrete x.steel a.concrete a.steel;
    }
