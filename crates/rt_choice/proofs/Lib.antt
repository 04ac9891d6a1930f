pub mod PathLinks
