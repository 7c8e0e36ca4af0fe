-- The symbols of document 01's steps for beams, with α1, βc and ξb of document 02, wish 7.
use Rattle.std.specs.Prelude.{ℕ, ◌+◌, ◌-◌, ◌*◌, ltb}
use Rattle.quantity.specs.Fraction.{Frac, ◌//◌}
use Rattle.quantity.specs.declared.Stress.{Stress}
use Rattle.quantity.specs.Unit.{newtons, millimetres, in_units, in_tenths, in_hundredths}
use Rattle.material.specs.declared.Concrete.{Concrete}
use Rattle.material.specs.declared.Steel.{Steel}
use Rattle.parameters.specs.declared.Parameters.{Parameters}
use Rattle.code_tables.specs.Bars.{area_of}
use Rattle.material.specs.Concrete.{concrete_of}
use Rattle.material.specs.Steel.{steel_of, fyv_of}
use Rattle.parameters.specs.Parameters.{parameters_of}
use Rattle.member.specs.Member.{Beam}
use Rattle.bars.specs.Sums.{area, sum_d, sum_e}
use Rattle.section.specs.declared.Section.{Section}

-- lengths, mm; h0 is the effective depth
abbrev pub b : Section → ℕ
b x = x.b.0

abbrev pub h : Section → ℕ
h x = x.h.0

abbrev pub h₀ : Section → ℕ
h₀ x = x.h0.0

abbrev pub a' : Section → ℕ
a' x = x.ac.0

abbrev pub s : Section → ℕ
s x = x.s.0

abbrev pub c : Section → ℕ
c x = x.c.0

abbrev pub l₀ : Section → ℕ
l₀ x = x.l0.0

-- area of the flange beside the web, (bf-b)·hf, mm²; G = b·h + (bf-b)·hf, W = b·h + 2·(bf-b)·hf
abbrev pub flange : Section → ℕ
flange x = x.flange

abbrev pub G : Section → ℕ
G x = b x * h x + flange x

-- twice GB 7.1.2's effective tension area: W = 2·Ate
abbrev pub W : Section → ℕ
W x = b x * h x + 2 * flange x

-- S, S' and L, tenths of mm²; E and D
abbrev pub S : Section → ℕ
S x = x.tension

abbrev pub S' : Section → ℕ
S' x = x.compression

abbrev pub L : Section → ℕ
L x = x.links

abbrev pub E : Section → ℕ
E x = x.squares

abbrev pub D : Section → ℕ
D x = x.diameters

-- moments, N·m, and shear V, N
abbrev pub M : Section → ℕ
M x = x.M

abbrev pub Mq : Section → ℕ
Mq x = x.Mq

abbrev pub Vd : Section → ℕ
Vd x = x.v.0

-- strengths as the steps take them: fc in tenths, ft and ftk in hundredths, the others in whole N/mm²
abbrev pub fc : Section → ℕ
fc x = in_tenths x.concrete.fc

abbrev pub ft : Section → ℕ
ft x = in_hundredths x.concrete.ft

abbrev pub ftk : Section → ℕ
ftk x = in_hundredths x.concrete.ftk

abbrev pub Ec : Section → ℕ
Ec x = in_units x.concrete.ec

abbrev pub fyk : Section → ℕ
fyk x = in_units x.steel.fyk

abbrev pub fy : Section → ℕ
fy x = in_units x.steel.fy

-- fy'
abbrev pub fyc : Section → ℕ
fyc x = in_units x.steel.fyc

abbrev pub fyv : Section → ℕ
fyv x = in_units x.fyv

-- stress factor α1 in hundredths, web factor βc in thirtieths
abbrev pub α₁ : Section → ℕ
α₁ x = x.parameters.stressFactor

abbrev pub βc : Section → ℕ
βc x = x.parameters.webFactor

-- depth limit ξb, the compression zone's largest depth over h0
abbrev pub ξb : Section → Frac
ξb x = x.parameters.depthLimit.num // x.parameters.depthLimit.den

-- The section of a beam, for given materials and parameters; L = legs times area.
abbrev pub section_with : Beam → Concrete → Steel → Stress → Parameters → Section
section_with x concrete steel fyv parameters =
    record {
      b = millimetres x.b;
      h = millimetres x.h;
      h0 = millimetres (x.h - x.aₛ);
      ac = millimetres x.a';
      flanged = ltb x.b x.bf;
      flange = (x.bf - x.b) * x.hf;
      tension = area x.tension;
      compression = area x.compression;
      links = x.legs * area_of x.link;
      squares = sum_e x.tension;
      diameters = sum_d x.tension;
      s = millimetres x.s;
      c = millimetres x.c;
      l0 = millimetres x.l₀;
      M = x.M;
      Mq = x.Mq;
      v = newtons x.Vd;
      environment = x.environment;
      strict = x.strict;
      concrete = concrete;
      steel = steel;
      fyv = fyv;
      load = x.load;
      parameters = parameters;
    }

-- with the materials that its fields name, and their parameters
unfoldable pub section_of : Beam → Section
section_of x =
    let steel = steel_of x.steel in
    section_with x (concrete_of x.concrete) steel (fyv_of x.linkSteel) (parameters_of x.concrete steel)
