pub mod HouseText
