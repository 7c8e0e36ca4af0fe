pub mod ServiceMoment
