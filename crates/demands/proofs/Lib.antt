pub mod Demands
pub mod Polynomial
pub mod SiteTexts
