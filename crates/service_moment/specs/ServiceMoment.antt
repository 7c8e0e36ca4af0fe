-- Question 14 (document 02, request 5), put to a whole beam of either kind.
use Rattle.std.specs.Prelude.{Bool, leb}
use Rattle.member.specs.Member.{Beam}

-- 14: Mq ≤ M; the service moment and the design moment, N·m
unfoldable pub service_moment_fits : Beam → Bool
service_moment_fits x = leb x.Mq x.M
